use Rattle.package_check.proofs.source_file.PiecedFileSourceFile.give.Goals as goal

pub returns-clause-stands : goal.returns-clause-stands
returns-clause-stands c = c.take.ensures.stands c.args.self.now.name.now
