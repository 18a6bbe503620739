use Rattle.package_check.proofs.Common.{FileView, OnOk, TakesCopper, subst, sym}
use Rattle.package_check.specs.CheckViews.{setting_of}
use Rattle.package_check.proofs.FileKinds.{role_copper}
use Rattle.package_check.proofs.PiecesLemmas.{joined}
use Rattle.package_check.proofs.source_file.PiecedFileSourceFile.give_copper.Goals as goal

pub returns-clause-stands : goal.returns-clause-stands
returns-clause-stands c = λ copper.
    let file = c.args.self.now in
    subst (λ (source : FileView). OnOk c.take.result (TakesCopper c.args.check.now c.take.new.self c.args.index c.args.layer source))
    (λ j. let s : FileView = record { role = sym (role_copper file.role copper) j; name = file.name.now; said = file.said; bytes = joined file.pieces.now; setting = setting_of c.args.check.now } in s)
    (c.take.ensures.stands file.name.now)
