use Rattle.macro_shapes.proofs.Common.{◌≡◌, ◌/◌, ◌+ℤ◌, ◌-ℤ◌, ◌∙◌, w64, arith, IfOk-weaker, ints, int_min, int_max, to_z, of_z, rectangle_of, rectangle_along}
use Rattle.macro_shapes.proofs.RectangleLemmas.{lying_made, upright_made, less_half, and_half, least_made, greatest_made}
use Rattle.macro_shapes.proofs.shape.rectangle_along.Goals as goal

pub returns-then-y : goal.returns-then-y
returns-then-y c =
    let wide = c.if-width-gt-MAX_SIDE.false in
    let level : c.args.a.y ≡ c.args.b.y = omega (arith, ints, c.if-y.true, c.y.ensures.value, c.y-2.ensures.value) in
    let least : to_z w64 (of_z w64 c.min-left.result) ≡ int_min c.args.a.x c.args.b.x =
    least_made c.min-left.result c.x.result c.x-then-y.result c.args.a.x c.args.b.x c.min-left.ensures.value c.x.ensures.value c.x-then-y.ensures.value c.x.ensures.in_range c.x-then-y.ensures.in_range in
    let greatest : to_z w64 (of_z w64 c.max-right.result) ≡ int_max c.args.a.x c.args.b.x =
    greatest_made c.max-right.result c.x-then-y-2.result c.x-then-y-3.result c.args.a.x c.args.b.x c.max-right.ensures.value c.x-then-y-2.ensures.value c.x-then-y-3.ensures.value c.x-then-y-2.ensures.in_range c.x-then-y-3.ensures.in_range in
    let left = to_z w64 (of_z w64 c.min-left.result) in
    let low = to_z w64 (of_z w64 (to_z w64 (of_z w64 c.y-then-y.result) -ℤ to_z w64 (c.args.width / 2))) in
    let right = to_z w64 (of_z w64 c.max-right.result) in
    let high = to_z w64 (of_z w64 (to_z w64 (of_z w64 c.y-then-y-2.result) +ℤ to_z w64 (c.args.width / 2))) in
    IfOk-weaker c.rectangle_of.result (λ answer. answer ≡ rectangle_of left low right high) (λ answer. answer ≡ rectangle_along c.args.a c.args.b c.args.width)
    (λ answer made.
    made
    ∙ lying_made c.args.a c.args.b c.args.width left low right high wide level least
    (less_half c.y-then-y.result c.args.a.y c.args.width c.y-then-y.ensures.value c.y-then-y.ensures.in_range wide)
    greatest
    (and_half c.y-then-y-2.result c.args.a.y c.args.width c.y-then-y-2.ensures.value c.y-then-y-2.ensures.in_range wide))
    c.rectangle_of.ensures

pub returns-then-x : goal.returns-then-x
returns-then-x c =
    let wide = c.if-width-gt-MAX_SIDE.false in
    let apart : c.args.a.y ≡ c.args.b.y → ⊥ = λ (same : c.args.a.y ≡ c.args.b.y). omega (arith, ints, c.if-y.false, c.y.ensures.value, c.y-2.ensures.value) in
    let level : c.args.a.x ≡ c.args.b.x = omega (arith, ints, c.if-x.true, c.x-2.ensures.value, c.x-3.ensures.value) in
    let least : to_z w64 (of_z w64 c.min-bottom.result) ≡ int_min c.args.a.y c.args.b.y =
    least_made c.min-bottom.result c.y-then-x.result c.y-then-x-2.result c.args.a.y c.args.b.y c.min-bottom.ensures.value c.y-then-x.ensures.value c.y-then-x-2.ensures.value c.y-then-x.ensures.in_range c.y-then-x-2.ensures.in_range in
    let greatest : to_z w64 (of_z w64 c.max-top.result) ≡ int_max c.args.a.y c.args.b.y =
    greatest_made c.max-top.result c.y-then-x-3.result c.y-then-x-4.result c.args.a.y c.args.b.y c.max-top.ensures.value c.y-then-x-3.ensures.value c.y-then-x-4.ensures.value c.y-then-x-3.ensures.in_range c.y-then-x-4.ensures.in_range in
    let left = to_z w64 (of_z w64 (to_z w64 (of_z w64 c.x-then-x.result) -ℤ to_z w64 (c.args.width / 2))) in
    let low = to_z w64 (of_z w64 c.min-bottom.result) in
    let right = to_z w64 (of_z w64 (to_z w64 (of_z w64 c.x-then-x-2.result) +ℤ to_z w64 (c.args.width / 2))) in
    let high = to_z w64 (of_z w64 c.max-top.result) in
    IfOk-weaker c.rectangle_of-then-x.result (λ answer. answer ≡ rectangle_of left low right high) (λ answer. answer ≡ rectangle_along c.args.a c.args.b c.args.width)
    (λ answer made.
    made
    ∙ upright_made c.args.a c.args.b c.args.width left low right high wide apart level
    (less_half c.x-then-x.result c.args.a.x c.args.width c.x-then-x.ensures.value c.x-then-x.ensures.in_range wide)
    least
    (and_half c.x-then-x-2.result c.args.a.x c.args.width c.x-then-x-2.ensures.value c.x-then-x-2.ensures.in_range wide)
    greatest)
    c.rectangle_of-then-x.ensures
