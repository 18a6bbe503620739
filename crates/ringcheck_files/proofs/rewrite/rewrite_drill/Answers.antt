use Rattle.ringcheck_files.proofs.Common.{err_from_is_err_and}
use Rattle.ringcheck_files.proofs.WriterLemmas.{drill_refused, drill_written}
use Rattle.ringcheck_files.proofs.rewrite.rewrite_drill.Goals as goal

pub returns-in_err-drill : goal.returns-in_err-drill
returns-in_err-drill c =
    let p = err_from_is_err_and c.from_residual.result c.from_residual.ensures.1 in
    rw (p.1, p.2) (drill_refused c.args.bytes.now c.in_err-drill.field-0.0 c.in_err-drill.ensures)

pub returns : goal.returns
returns c = drill_written c.args.bytes.now c.in_ok-drill.drill c.into_text.result c.in_ok-drill.ensures c.into_text.ensures
