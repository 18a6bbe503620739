-- Steps of the definitions, as the functions of this crate take them.
use Rattle.std.specs.Prelude.{ℕ, ℤ, List, slice_get, if◌then◌else◌, Option, None, Some, option_and_then}
use Rattle.std.specs.Result.{result_ok}
use Rattle.grid_units.specs.Numbers.{picometres, within_limit}
use Rattle.grid_units.specs.declared.lengths.Unit.{Unit as Units}
use Rattle.grid_units.specs.Points.{GridPoint}
use Rattle.macro_shapes.specs.Primitives.{grid_point, is_same}
use Rattle.macro_shapes.specs.Shapes.{crossing_sides}
use Rattle.macro_shapes.specs.declared.primitive.Primitive.{Primitive}

-- the second of two points that follow one another, where it is another than the first
abbrev pub other_point : GridPoint × GridPoint → Option GridPoint
other_point pair = if is_same pair.1 pair.0 then None else Some pair.1

-- the sides of the second primitive, where that is a rectangle which crosses the first one
abbrev pub second_crossing : GridPoint → ℕ → ℕ → List Primitive → Option (ℕ × ℕ)
second_crossing c w h qs = option_and_then (crossing_sides c w h) (slice_get qs 1)

-- a value as a length in pm, none beyond 10 m
abbrev pub length_of : Units → ℤ → Option ℤ
length_of unit v = result_ok (within_limit (picometres unit 8 v))

-- two values as a point, length by length
abbrev pub point_of : Units → ℤ → ℤ → Option GridPoint
point_of unit x y = option_and_then (λ a. option_and_then (λ b. grid_point a b) (length_of unit y)) (length_of unit x)
