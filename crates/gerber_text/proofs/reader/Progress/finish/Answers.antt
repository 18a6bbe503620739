use Rattle.gerber_text.proofs.Common.{err_from_is_err_and, ◌++◌}
use Rattle.gerber_text.proofs.FinishLemmas.{ends_answers, ends_kept}
use Rattle.gerber_text.proofs.reader.Progress.finish.Goals as goal

pub returns-in_err-end-clause-exact : goal.returns-in_err-end-clause-exact
returns-in_err-end-clause-exact c profile gone text h =
    let p = err_from_is_err_and c.from_residual.result c.from_residual.ensures.1 in
    rw (p.1, p.2) (ends_answers profile text gone (gone ++ c.args.self.commands.items) c.in_err-end.field-0.0 (c.in_err-end.ensures profile gone text h))

pub returns-in_err-end-clause-kept : goal.returns-in_err-end-clause-kept
returns-in_err-end-clause-kept c profile gone text h =
    let p = err_from_is_err_and c.from_residual.result c.from_residual.ensures.1 in
    rw (p.1, p.2) (ends_kept profile text (gone ++ c.args.self.commands.items) c.in_err-end.field-0.0 (c.in_err-end.ensures profile gone text h))
