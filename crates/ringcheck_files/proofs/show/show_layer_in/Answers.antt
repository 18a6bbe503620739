use Rattle.ringcheck_files.proofs.Common.{[], ap, ◌∙◌, err_from_is_err_and, layer_table}
use Rattle.layer_features.specs.declared.keep.Keep.TheVariants as keep
use Rattle.ringcheck_files.proofs.Pieces.{layer_refused}
use Rattle.ringcheck_files.proofs.show.show_layer_in.Goals as goal

pub returns-in_err-layer : goal.returns-in_err-layer
returns-in_err-layer c =
    let p = err_from_is_err_and c.from_residual.result c.from_residual.ensures.1 in
    record { exact = rw (p.1, p.2) (layer_refused c.args.profile keep.Rows [] c.args.bytes.now c.in_err-layer.field-0.0 c.in_err-layer.ensures) }

pub returns-in-Ok : goal.returns-in-Ok
returns-in-Ok c = record { exact = (c.in_ok-features.features.items, c.in_ok-features.ensures c.args.bytes.now c.in_ok-layer.ensures, c.in-Ok.ensures ∙ ap layer_table c.deref.ensures.value) }
