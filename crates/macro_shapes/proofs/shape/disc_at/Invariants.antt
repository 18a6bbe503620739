use Rattle.macro_shapes.proofs.Common.{◌≡◌, take, disc_in_turn}
use Rattle.macro_shapes.proofs.shape.disc_at.Given as goal

abbrev pub invariant-loop-primitive : goal.invariant-loop-primitive
invariant-loop-primitive l = l.found ≡ disc_in_turn (take l.primitive-index l.primitives) l.point
