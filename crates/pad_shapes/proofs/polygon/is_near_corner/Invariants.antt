use Rattle.std.proofs.Common.{◌≡◌, drop, nat_le}
use Rattle.std.specs.List.{list_any}
use Rattle.grid_units.specs.Points.{square, square_distance}
use Rattle.pad_shapes.proofs.polygon.is_near_corner.Given as goal

abbrev pub invariant-loop-corner : goal.invariant-loop-corner
invariant-loop-corner l = list_any (λ v. nat_le (square_distance l.point v) (square l.distance)) (drop l.corner-index l.others) ≡ list_any (λ v. nat_le (square_distance l.point v) (square l.distance)) l.others
