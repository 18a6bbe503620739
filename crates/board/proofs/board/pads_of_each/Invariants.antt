use Rattle.std.specs.Prelude.{◌≡◌, map, take}
use Rattle.board.proofs.board.pads_of_each.Given as goal

abbrev pub invariant-loop-layer : goal.invariant-loop-layer
invariant-loop-layer l = map (λ pads. pads.now) l.all.items ≡ map (λ layer. layer.items) (take l.layer-index l.layers)
