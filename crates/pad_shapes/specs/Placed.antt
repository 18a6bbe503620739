-- Rounded polygons that lie at an offset. Lengths are whole picometres.
use Rattle.std.specs.Prelude.{◌+ℤ◌, Bool, not, ◌&&◌, map, Option, None, Some, if◌then◌else◌}
use Rattle.std.specs.List.{list_all}
use Rattle.grid_units.specs.Points.{GridPoint}
use Rattle.grid_units.specs.Numbers.{is_too_far}
use Rattle.pad_shapes.specs.Rounded.{GridRounded, corners}

-- a point moved by an offset
abbrev pub moved_point : GridPoint → GridPoint → GridPoint
moved_point offset p = record { x = offset.x +ℤ p.x; y = offset.y +ℤ p.y }

-- a shape moved by an offset
abbrev pub moved_shape : GridPoint → GridRounded → GridRounded
moved_shape offset s = record { first = moved_point offset s.first; others = map (moved_point offset) s.others; radius = s.radius }

-- a point lies at most 10 m from zero along each axis
abbrev pub is_near : GridPoint → Bool
is_near p = not (is_too_far p.x) && not (is_too_far p.y)

-- a shape moved by an offset, where each of its corners then lies at most 10 m from zero along each axis
abbrev pub shape_at : GridRounded → GridPoint → Option GridRounded
shape_at s offset = if list_all is_near (corners (moved_shape offset s)) then Some (moved_shape offset s) else None
