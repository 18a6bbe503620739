use Rattle.ringcheck.proofs.Common.{◌∙◌}
use Rattle.ringcheck.proofs.Outcomes.{names_loaded}
use Rattle.ringcheck_files.specs.LoaderRelation.{file_limit, within}
use Rattle.ringcheck.proofs.packages.answer.Goals as goal

pub returns-in-Ok-clause-answers : goal.returns-in-Ok-clause-answers
returns-in-Ok-clause-answers g c =
    let (files, held, is) = rw c.in-Ok.is at c.in_ok-report-in-Check.ensures in
    let loaded = names_loaded (within file_limit (g.L.Loader.has c.args.loader.now)) c.in-Check.rules.profile c.args.manifest.entries.now files held in
    rw c.in-Check.is (files, held, c.in_ok-check-in-Ok.ensures _ c.in-Check.rules (rw c.as_slice-names.ensures.value (c.in_ok-names.ensures ∙ loaded)) is.0)

pub returns-in-Certify-clause-answers : goal.returns-in-Certify-clause-answers
returns-in-Certify-clause-answers g c =
    rw c.in-Certify.is (rw c.text_of-given.ensures at c.certify.ensures.answers (rw c.as_slice-names.ensures.value c.in_ok-names.ensures))
