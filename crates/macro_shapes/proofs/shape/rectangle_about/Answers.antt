use Rattle.macro_shapes.proofs.Common.{◌≡◌, ◌/◌, ◌+ℤ◌, ◌-ℤ◌, ◌∙◌, w64, IfOk-weaker, to_z, of_z, rectangle_of, rectangle_about}
use Rattle.macro_shapes.proofs.RectangleLemmas.{about_made, less_half, and_half}
use Rattle.macro_shapes.proofs.shape.rectangle_about.Goals as goal

pub returns : goal.returns
returns c =
    let wide = c.if-width-gt-MAX_SIDE.false in
    let tall = c.if-height-gt-MAX_SIDE.false in
    let left = to_z w64 (of_z w64 (to_z w64 (of_z w64 c.x.result) -ℤ to_z w64 (c.args.width / 2))) in
    let bottom = to_z w64 (of_z w64 (to_z w64 (of_z w64 c.y.result) -ℤ to_z w64 (c.args.height / 2))) in
    let right = to_z w64 (of_z w64 (to_z w64 (of_z w64 c.x-2.result) +ℤ to_z w64 (c.args.width / 2))) in
    let top = to_z w64 (of_z w64 (to_z w64 (of_z w64 c.y-2.result) +ℤ to_z w64 (c.args.height / 2))) in
    IfOk-weaker c.rectangle_of.result (λ answer. answer ≡ rectangle_of left bottom right top) (λ answer. answer ≡ rectangle_about c.args.centre c.args.width c.args.height)
    (λ answer made.
    made
    ∙ about_made c.args.centre c.args.width c.args.height left bottom right top wide tall
    (less_half c.x.result c.args.centre.x c.args.width c.x.ensures.value c.x.ensures.in_range wide)
    (less_half c.y.result c.args.centre.y c.args.height c.y.ensures.value c.y.ensures.in_range tall)
    (and_half c.x-2.result c.args.centre.x c.args.width c.x-2.ensures.value c.x-2.ensures.in_range wide)
    (and_half c.y-2.result c.args.centre.y c.args.height c.y-2.ensures.value c.y-2.ensures.in_range tall))
    c.rectangle_of.ensures
