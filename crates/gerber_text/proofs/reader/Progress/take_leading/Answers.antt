use Rattle.gerber_text.proofs.Common.{err_from_is_err_and}
use Rattle.gerber_text.proofs.ShowsLemmas.{Advances-both, Refuses-prefix}
use Rattle.gerber_text.proofs.reader.Progress.take_leading.Goals as goal

pub returns-in_err-operate-in-Some-clause-err : goal.returns-in_err-operate-in-Some-clause-err
returns-in_err-operate-in-Some-clause-err c =
    let p = err_from_is_err_and c.from_residual.result c.from_residual.ensures.1 in
    rw (p.1, p.2) (Refuses-prefix c.args.self.now c.operate.new.self.commands.items c.args.bytes.now c.in-Some.operation.len c.in_err-operate-in-Some.field-0.0 c.in_err-operate-in-Some.ensures.err)

pub returns-in_ok-operate-in-Some-clause-ok : goal.returns-in_ok-operate-in-Some-clause-ok
returns-in_ok-operate-in-Some-clause-ok c = Advances-both c.args.self.now c.operate.new.self c.skip_breaks.new.self c.args.bytes.now c.in-Some.operation.len c.skip_breaks.result c.in_ok-operate-in-Some.ensures.ok c.skip_breaks.ensures.ok
