use Rattle.macro_shapes.proofs.Common.{ap, ◌∙◌, arith, take_all}
use Rattle.macro_shapes.specs.Inner.Borders.{shape_in_turn}
use Rattle.macro_shapes.proofs.BordersInTurn.{shape_is}
use Rattle.macro_shapes.proofs.shape.macro_shape.Goals as goal

pub returns : goal.returns
returns c =
    let qs = c.args.primitives.now in
    c.loop-primitive.invariant ∙ (ap (shape_in_turn qs) (take_all c.loop-primitive.primitive-index qs (omega arith)) ∙ shape_is qs)
