use Rattle.macro_shapes.proofs.Common.{w64, to_z-of_z}
use Rattle.macro_shapes.proofs.RectangleLemmas.{corner_made, rectangle_made}
use Rattle.macro_shapes.proofs.shape.rectangle_of.Goals as goal

pub returns : goal.returns
returns c =
    let left = to_z-of_z w64 c.args.left c.ranges.left in
    let bottom = to_z-of_z w64 c.args.bottom c.ranges.bottom in
    let right = to_z-of_z w64 c.args.right c.ranges.right in
    let top = to_z-of_z w64 c.args.top c.ranges.top in
    rectangle_made c.args.left c.args.bottom c.args.right c.args.top c.in-Some.first c.in-Some-grid_point.second c.in-Some-grid_point-2.third c.in-Some-grid_point-3.fourth c.in_ok-others.others.items c.rounded_of.result
    (corner_made c.args.left c.args.bottom _ _ c.in-Some.first c.grid_point.result left bottom c.grid_point.ensures c.in-Some.is)
    (corner_made c.args.right c.args.bottom _ _ c.in-Some-grid_point.second c.grid_point-2.result right bottom c.grid_point-2.ensures c.in-Some-grid_point.is)
    (corner_made c.args.right c.args.top _ _ c.in-Some-grid_point-2.third c.grid_point-3.result right top c.grid_point-3.ensures c.in-Some-grid_point-2.is)
    (corner_made c.args.left c.args.top _ _ c.in-Some-grid_point-3.fourth c.grid_point-4.result left top c.grid_point-4.ensures c.in-Some-grid_point-3.is)
    c.in_ok-others.ensures.items c.rounded_of.ensures
