use Rattle.drawing.proofs.Common.{◌≡◌, map, take, flat_map, fold, joined_to, pad_extent}
use Rattle.drawing.proofs.bounds.with_layers.Given as goal

abbrev pub invariant-loop-layer : goal.invariant-loop-layer
invariant-loop-layer l = l.all ≡ fold joined_to l.fn.before (flat_map (λ layer. map pad_extent layer) (take l.layer-index (map (λ layer. layer.now) l.layers)))
