use Rattle.ringcheck.proofs.Common.{◌∙◌, file_limit, setting_in, within}
use Rattle.ringcheck.proofs.LoadSteps.{read_in}
use Rattle.ringcheck.proofs.Outcomes.{names_loaded}
use Rattle.ringcheck.specs.Inner.Jobs.{board_profile}
use Rattle.ringcheck.proofs.packages.answer_with_board.Goals as goal

pub returns-in_ok-passes-in-Ok-clause-answers : goal.returns-in_ok-passes-in-Ok-clause-answers
returns-in_ok-passes-in-Ok-clause-answers g c = λ same.
    let profile = board_profile c.args.job.now in
    let entries = c.args.manifest.entries.now in
    let (files, held, is) = rw (c.in-Ok.is, c.profile.ensures, c.keep.ensures) at c.in_ok-board.ensures in
    let named = same ∙ names_loaded (within file_limit (g.L.Loader.has c.args.loader.now)) profile entries files held in
    (files, held, c.in_ok-passes-in-Ok.ensures _ named (read_in (setting_in profile entries) entries files) is)
