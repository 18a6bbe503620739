use Rattle.package_check.proofs.Common.{FileView, OnOk, TakesFile, setting_of, subst}
use Rattle.package_check.proofs.PiecesLemmas.{joined_one}
use Rattle.package_check.proofs.source_file.FileSourceFile.give.Goals as goal

pub returns-clause-stands : goal.returns-clause-stands
returns-clause-stands c =
    let file = c.args.self.now in
    subst (λ (source : FileView). OnOk c.take.result (TakesFile c.args.reader.now c.take.new.self c.args.index source))
    (λ j. let s : FileView = record { role = file.role; name = file.name.now; said = file.said; bytes = joined_one file.bytes.now j; setting = setting_of c.args.reader.now } in s)
    (c.take.ensures.stands file.name.now)
