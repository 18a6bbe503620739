use Rattle.macro_shapes.proofs.Common.{List, ap, ◌∙◌, arith, take_all, Edge, line_in_turn, Primitive}
use Rattle.macro_shapes.proofs.BordersInTurn.{line_is}
use Rattle.macro_shapes.proofs.shape.line_along.Goals as goal

pub returns : goal.returns
returns c =
    let qs = c.args.primitives.now in
    let e : Edge = record { from = c.args.start; to = c.args.end } in
    c.loop-primitive.invariant ∙ (ap (λ (found : List Primitive). line_in_turn found e) (take_all c.loop-primitive.primitive-index qs (omega arith)) ∙ line_is qs e)
