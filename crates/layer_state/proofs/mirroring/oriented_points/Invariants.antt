use Rattle.layer_state.proofs.Common.{◌≡◌, map, take, oriented_point}
use Rattle.layer_state.proofs.mirroring.oriented_points.Given as goal

abbrev pub invariant-loop-point : goal.invariant-loop-point
invariant-loop-point l = l.found.items ≡ map (oriented_point l.mirroring l.turns) (take l.point-index l.points)
