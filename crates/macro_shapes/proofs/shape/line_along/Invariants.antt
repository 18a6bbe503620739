use Rattle.macro_shapes.proofs.Common.{◌≡◌, take, line_in_turn}
use Rattle.macro_shapes.proofs.shape.line_along.Given as goal

abbrev pub invariant-loop-primitive : goal.invariant-loop-primitive
invariant-loop-primitive l = l.found ≡ line_in_turn (take l.primitive-index l.primitives) (record { from = l.start; to = l.end })
