-- Both corners of the box are near just where all corners are.
use Rattle.std.proofs.Common.{◌≡◌, ◌∙◌, ◌&&◌, Bool, ap, sym}
use mir.Syntax.{w128}
use Rattle.std.proofs.lemmas.Int.{to_z-of_z}
use Rattle.std.specs.Int.{int_min, int_max}
use Rattle.grid_units.specs.Points.{GridPoint}
use Rattle.pad_shapes.specs.Placed.{is_near, moved_point}
use Rattle.pad_shapes.specs.Rounded.{box_corner}
use Rattle.pad_shapes.proofs.FrameLemmas.{near_as_box}
use Rattle.pad_shapes.proofs.placed.lies_near.Goals as goal

pub returns-then-stays_near : goal.returns-then-stays_near
returns-then-stays_near c =
    let o : GridPoint = record { x = c.args.x; y = c.args.y } in
    let s = c.args.shape.now in
    let low : c.stays_near.result ≡ is_near (moved_point o (box_corner int_min s)) =
    c.stays_near.ensures ∙ (λ i. is_near (moved_point (record { x = to_z-of_z w128 c.args.x c.ranges.x i; y = to_z-of_z w128 c.args.y c.ranges.y i }) (c.low.ensures i))) in
    let high : c.stays_near-then-stays_near.result ≡ is_near (moved_point o (box_corner int_max s)) =
    c.stays_near-then-stays_near.ensures ∙ (λ i. is_near (moved_point (record { x = to_z-of_z w128 c.args.x c.ranges.x i; y = to_z-of_z w128 c.args.y c.ranges.y i }) (c.high.ensures i))) in
    high ∙ ap (λ (b : Bool). b && is_near (moved_point o (box_corner int_max s))) (sym c.if-stays_near.true ∙ low) ∙ near_as_box o s

pub returns-else-stays_near : goal.returns-else-stays_near
returns-else-stays_near c =
    let o : GridPoint = record { x = c.args.x; y = c.args.y } in
    let s = c.args.shape.now in
    let low : c.stays_near.result ≡ is_near (moved_point o (box_corner int_min s)) =
    c.stays_near.ensures ∙ (λ i. is_near (moved_point (record { x = to_z-of_z w128 c.args.x c.ranges.x i; y = to_z-of_z w128 c.args.y c.ranges.y i }) (c.low.ensures i))) in
    c.if-stays_near.false ∙ ap (λ (b : Bool). b && is_near (moved_point o (box_corner int_max s))) (sym c.if-stays_near.false ∙ low) ∙ near_as_box o s
