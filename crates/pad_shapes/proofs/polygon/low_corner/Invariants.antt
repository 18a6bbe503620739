use Rattle.std.proofs.Common.{◌≡◌, take, fold}
use Rattle.std.specs.Int.{int_min}
use Rattle.grid_units.specs.Points.{IsCoordinate}
use Rattle.pad_shapes.proofs.polygon.low_corner.Given as goal

abbrev pub invariant-loop-corner : goal.invariant-loop-corner
invariant-loop-corner l = record {
  x_so_far : l.x ≡ fold (λ best v. int_min best v.x) l.fn.first.x (take l.corner-index l.others);
  y_so_far : l.y ≡ fold (λ best v. int_min best v.y) l.fn.first.y (take l.corner-index l.others);
  x_in_range : IsCoordinate l.x;
  y_in_range : IsCoordinate l.y;
}
