-- Each point stays near.
use Rattle.std.proofs.Common.{◌∙◌, ℤ, ◌+ℤ◌, map, w64, ap, sym, subst, arith}
use Rattle.std.proofs.lemmas.Int.{to_z-of_z}
use Rattle.std.proofs.lemmas.List.{take_all}
use Rattle.grid_units.specs.Points.{GridPoint, IsCoordinate}
use Rattle.pad_shapes.specs.Placed.{is_near, moved_point}
use Rattle.pad_shapes.proofs.PlacedLemmas.{near_each, near_x, near_y}
use Rattle.pad_shapes.proofs.placed.moved_points.Goals as goal

pub moved_point-requires-clause-x : goal.moved_point-requires-clause-x
moved_point-requires-clause-x c =
    let o : GridPoint = record { x = c.args.x; y = c.args.y } in
    let near = ap (λ (v : GridPoint). is_near (moved_point o v)) c.point-item.is ∙ near_each o c.args.points.now c.requires c.loop-point.point-index c.point-item.result (omega arith) in
    subst (λ (z : ℤ). IsCoordinate (z +ℤ c.point-item.result.x)) (sym (to_z-of_z w64 c.args.x c.ranges.x)) (near_x (moved_point o c.point-item.result) near)

pub moved_point-requires-clause-y : goal.moved_point-requires-clause-y
moved_point-requires-clause-y c =
    let o : GridPoint = record { x = c.args.x; y = c.args.y } in
    let near = ap (λ (v : GridPoint). is_near (moved_point o v)) c.point-item.is ∙ near_each o c.args.points.now c.requires c.loop-point.point-index c.point-item.result (omega arith) in
    subst (λ (z : ℤ). IsCoordinate (z +ℤ c.point-item.result.y)) (sym (to_z-of_z w64 c.args.y c.ranges.y)) (near_y (moved_point o c.point-item.result) near)

pub returns : goal.returns
returns c =
    c.loop-point.invariant
    ∙ (λ i. map (moved_point (record { x = to_z-of_z w64 c.args.x c.ranges.x i; y = to_z-of_z w64 c.args.y c.ranges.y i })) (take_all c.loop-point.point-index c.args.points.now (omega arith) i))
