use Rattle.std.proofs.Common.{◌≡◌, map, take}
use Rattle.pad_shapes.specs.Placed.{moved_point}
use Rattle.pad_shapes.proofs.placed.moved_points.Given as goal

abbrev pub invariant-loop-point : goal.invariant-loop-point
invariant-loop-point l = l.found.items ≡ map (moved_point (record { x = l.x; y = l.y })) (take l.point-index l.points)
