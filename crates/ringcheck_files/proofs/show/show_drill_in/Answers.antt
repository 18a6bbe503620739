use Rattle.ringcheck_files.proofs.Common.{ap, ◌∙◌, err_from_is_err_and, drill_table}
use Rattle.drill_text.specs.declared.kept.Keep.TheVariants as keep
use Rattle.ringcheck_files.proofs.Pieces.{drill_refused, drill_told}
use Rattle.ringcheck_files.proofs.show.show_drill_in.Goals as goal

pub returns-in_err-drill : goal.returns-in_err-drill
returns-in_err-drill c =
    let p = err_from_is_err_and c.from_residual.result c.from_residual.ensures.1 in
    record { exact = rw (p.1, p.2) (drill_refused c.args.profile keep.Holes c.args.bytes.now c.in_err-drill.field-0.0 c.in_err-drill.ensures) }

pub returns-in-Ok : goal.returns-in-Ok
returns-in-Ok c =
    record { exact = drill_told c.args.profile keep.Holes c.args.bytes.now _ c.in_ok-drill.drill c.in_ok-drill.ensures (c.in-Ok.ensures ∙ ap drill_table c.holes.ensures) }
