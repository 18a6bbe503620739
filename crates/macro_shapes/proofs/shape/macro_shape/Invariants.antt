use Rattle.macro_shapes.proofs.Common.{◌≡◌, take}
use Rattle.macro_shapes.specs.Inner.Borders.{shape_in_turn}
use Rattle.macro_shapes.proofs.shape.macro_shape.Given as goal

abbrev pub invariant-loop-primitive : goal.invariant-loop-primitive
invariant-loop-primitive l = l.found ≡ shape_in_turn l.primitives (take l.primitive-index l.primitives)
