use Rattle.ringcheck_files.proofs.Common.{[], err_from_is_err_and, Strict, plain}
use Rattle.drill_text.specs.declared.kept.Keep.TheVariants as keep
use Rattle.ringcheck_files.proofs.WriterLemmas.{drill_shown}
use Rattle.ringcheck_files.proofs.rewrite.read_drill.Goals as goal

pub returns-in_err-feed : goal.returns-in_err-feed
returns-in_err-feed c =
    let p = err_from_is_err_and c.from_residual.result c.from_residual.ensures.1 in
    rw (p.1, p.2) (drill_shown c.faults_stay.ensures.read c.args.bytes.now c.in_err-feed.field-0.0 (c.in_err-feed.ensures.err (plain Strict) keep.Text [] c.keeping-reader.ensures))

pub returns : goal.returns
returns c = c.finish.ensures.exact keep.Text c.args.bytes.now (c.in_ok-feed.ensures.ok (plain Strict) keep.Text [] c.keeping-reader.ensures)
