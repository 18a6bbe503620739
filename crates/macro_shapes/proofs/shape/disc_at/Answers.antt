use Rattle.macro_shapes.proofs.Common.{List, ap, ◌∙◌, arith, take_all, disc_in_turn, Primitive}
use Rattle.macro_shapes.proofs.BordersInTurn.{disc_is}
use Rattle.macro_shapes.proofs.shape.disc_at.Goals as goal

pub returns : goal.returns
returns c =
    let qs = c.args.primitives.now in
    c.loop-primitive.invariant ∙ (ap (λ (found : List Primitive). disc_in_turn found c.args.point) (take_all c.loop-primitive.primitive-index qs (omega arith)) ∙ disc_is qs c.args.point)
