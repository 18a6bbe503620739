-- The corners are those that were asked for.
use Rattle.layer_state.proofs.Common.{rules, FitsSigned, to_z, of_z, ◌≡◌, ◌∙◌, ◌<◌, map, length, unsigned_abs, ap, sym, subst, to_z-of_z, length-map, max_corners, in_order, oriented_point, rounded_by}
use Rattle.std.proofs.Common.{w64}
use Rattle.pad_shapes.specs.Shapes.{IsPadRadius}
use Rattle.layer_state.proofs.OrientLemmas.{in_order_length, rounded_is}
use Rattle.layer_state.proofs.mirroring.oriented_shape.Goals as goal

pub returns : goal.returns
returns c =
    let m = c.args.mirroring in
    let s = c.args.shape.now in
    let there = oriented_point m c.args.turns in
    let first = c.oriented_point-first.ensures ∙ ap there c.first.ensures in
    let others = c.in_order-others.ensures ∙ ap (in_order m) (c.in_ok-others.ensures ∙ ap (map there) c.others.ensures.value) in
    let few : length c.in_order-others.result.items < max_corners = subst (λ n. n < max_corners) (sym (ap length others ∙ in_order_length m (map there s.others) ∙ length-map s.others there)) c.others.ensures.in_range.few in
    let fits : FitsSigned w64 c.radius.result = search rules in
    let back : to_z w64 (of_z w64 c.radius.result) ≡ c.radius.result = to_z-of_z w64 c.radius.result fits in
    rounded_is c.new.result _ _ (to_z w64 (of_z w64 c.radius.result)) few (subst IsPadRadius (sym back) c.radius.ensures.in_range) c.new.ensures.valid c.new.ensures.value
    ∙ (λ i. rounded_by (first i) (others i) (unsigned_abs ((back ∙ c.radius.ensures.value) i)))
