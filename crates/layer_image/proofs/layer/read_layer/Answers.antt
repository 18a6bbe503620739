use Rattle.layer_image.proofs.Common.{List, [], subst, sym, err_from_is_err_and, Answers, Strict, WidePad, has_forgotten, KeptLayer, ReadsKeptIn}
use Rattle.layer_features.specs.declared.keep.Keep.TheVariants as keep
use Rattle.layer_image.proofs.Pieces.{all_kept, layer_shows_reads, none_left}
use Rattle.layer_image.proofs.layer.read_layer.Goals as goal

pub returns-in_err-feed : goal.returns-in_err-feed
returns-in_err-feed c =
    let p = err_from_is_err_and c.from_residual.result c.from_residual.ensures.1 in
    rw (p.1, p.2) (layer_shows_reads Strict c.args.bytes.now c.in_err-feed.field-0.0 (c.in_err-feed.ensures.err Strict keep.Layer [] [] c.new-reader.ensures))

pub returns : goal.returns
returns c = all_kept c.args.bytes.now c.finish.result (subst (λ (left : List WidePad). Answers {T = KeptLayer} (λ layer. layer) (ReadsKeptIn Strict keep.Layer left c.args.bytes.now) c.finish.result) (sym (none_left (has_forgotten c.feed.new.self)))
    (c.finish.ensures.exact Strict keep.Layer [] c.args.bytes.now (c.in_ok-feed.ensures.ok Strict keep.Layer [] [] c.new-reader.ensures)))
