use Rattle.ringcheck_files.proofs.Common.{err_from_is_err_and}
use Rattle.ringcheck_files.proofs.WriterLemmas.{layer_refused, layer_written}
use Rattle.ringcheck_files.proofs.rewrite.rewrite_layer.Goals as goal

pub returns-in_err-check_layer : goal.returns-in_err-check_layer
returns-in_err-check_layer c =
    let p = err_from_is_err_and c.from_residual.result c.from_residual.ensures.1 in
    rw (p.1, p.2) (layer_refused c.args.bytes.now c.in_err-check_layer.field-0.0 c.in_err-check_layer.ensures.err)

pub returns : goal.returns
returns c = let image = c.in_ok-check_layer.ensures.ok in layer_written c.args.bytes.now image.0 c.write_layer.result image.1 (c.write_layer.ensures image.0 image.1)
