use Rattle.macro_shapes.proofs.Common.{◌≡◌, List, sym, ap, ◌∙◌, IfOk-weaker, GridPoint, rounded_of, rectangle_along, segment, line_shape}
use Rattle.std.specs.Option.{option_map_or}
use Rattle.macro_shapes.proofs.BordersInTurn.{line_shape_is}
use Rattle.macro_shapes.proofs.shape.line_shape.Goals as goal

pub returns-in-Some : goal.returns-in-Some
returns-in-Some c =
    let a = c.args.from in
    let b = c.args.to in
    let made = line_shape_is c.args.primitives.now a b c.args.width c.deref.result.now c.border.result (c.deref.ensures.value ∙ c.in_ok-others.ensures) c.border.ensures in
    c.rounded_of.ensures ∙ (ap (λ (l : List GridPoint). rounded_of a l c.in-Some.size) c.in_ok-others.ensures ∙ (sym (ap (λ o. option_map_or (rounded_of a (segment a b).others) o (rectangle_along a b c.args.width)) c.in-Some.is) ∙ made))

pub returns-in-None : goal.returns-in-None
returns-in-None c =
    let a = c.args.from in
    let b = c.args.to in
    let made = line_shape_is c.args.primitives.now a b c.args.width c.deref.result.now c.border.result (c.deref.ensures.value ∙ c.in_ok-others.ensures) c.border.ensures in
    IfOk-weaker c.rectangle_along.result (λ answer. answer ≡ rectangle_along a b c.args.width) (λ answer. answer ≡ line_shape c.args.primitives.now a b c.args.width)
    (λ answer h. h ∙ (sym (ap (λ o. option_map_or (rounded_of a (segment a b).others) o (rectangle_along a b c.args.width)) c.in-None.is) ∙ made))
    c.rectangle_along.ensures
