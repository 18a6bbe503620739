-- The dark primitives of a macro that are judged, and their points, in whole pm about the point of the flash (Gerber format, Aperture macro AM).
use Rattle.std.specs.Prelude.{◌≡◌, ℕ, ℤ, pos, ◌-◌, ◌*◌, ◌/◌, ◌%◌, ◌^◌, ◌<◌, ◌≤◌, ◌≤ℤ◌, neg_ℤ, Bool, true, not, ◌&&◌, ◌==◌, nat_le, nat_lt, int_lt, int_le, unsigned_abs, List, [], ◌∷◌, length, take, drop, zip, reverse, get_or, slice_get, if◌then◌else◌, Option, None, Some, option_map, option_and_then, min}
use Rattle.std.specs.Option.{option_map_or, option_or}
use Rattle.std.specs.Result.{result_ok}
use Rattle.std.specs.List.{filter_map, list_any}
use Rattle.std.specs.Ordering.{int_eq}
use Rattle.grid_units.specs.Points.{GridPoint, max_coordinate, square, abs_diff, square_distance}
use Rattle.grid_units.specs.Numbers.{picometres, within_limit}
use Rattle.grid_units.specs.declared.lengths.Unit.{Unit as Units}
use Rattle.pad_shapes.specs.Shapes.{max_half_side}
use Rattle.pad_shapes.specs.Rounded.{GridRounded, Edge, along, cross, square_edge, is_deep_inside, is_outline, max_corners}
use Rattle.macro_shapes.specs.declared.piece.Code.{Code}
use Rattle.macro_shapes.specs.declared.piece.Code.TheVariants as code
use Rattle.macro_shapes.specs.declared.fields.Fields.{Fields}
use Rattle.macro_shapes.specs.declared.primitive.Primitive.{Primitive}
use Rattle.macro_shapes.specs.declared.primitive.Primitive.TheVariants as primitive

-- ---- points

-- p is no further from the centre than half of the diameter (Gerber format, Circle, code 1)
abbrev pub IsInCircle : GridPoint → ℕ → GridPoint → Type 0
IsInCircle centre diameter p = 4 * square_distance p centre ≤ square diameter

-- p lies beside the line from one end to another, no further from it than half of the width: in a rectangle (Gerber format, Vector line, code 20)
pub record IsInLine (e : Edge) (width : ℕ) (p : GridPoint) : Type 0 where
  pub some : 0 < square_edge e
  pub after : pos 0 ≤ℤ along e p
  pub before : along e p ≤ℤ pos (square_edge e)
  pub near : 4 * square (unsigned_abs (cross e p)) ≤ square width * square_edge e

-- p is, along each axis, no further from the centre than half of the side (Gerber format, Center line, code 21)
abbrev pub IsInRectangle : GridPoint → ℕ → ℕ → GridPoint → Type 0
IsInRectangle centre width height p = (2 * abs_diff p.x centre.x ≤ width) × (2 * abs_diff p.y centre.y ≤ height)

-- the points of a primitive; those of an outline lie to the right of no edge of a convex polygon, and a flat outline has none (Gerber
-- format, Outline, code 4); of what any angle may turn, the points of the disc inside of it
abbrev pub IsInPrimitive : Primitive → GridPoint → Type 0
IsInPrimitive (primitive.Circle centre diameter) p = IsInCircle centre diameter p
IsInPrimitive (primitive.VectorLine from to width) p = IsInLine (record { from = from; to = to }) width p
IsInPrimitive (primitive.CentreLine centre width height) p = IsInRectangle centre width height p
IsInPrimitive (primitive.Outline corners) p = is_deep_inside corners 0 p ≡ true
IsInPrimitive (primitive.Turned inner) p = IsInCircle (record { x = pos 0; y = pos 0 }) inner p

-- ---- values of fields

-- the quarter turns counterclockwise, 0 to 3, of a rotation in 10^-8 degrees; none of another angle (Gerber format, Rotation parameter)
abbrev pub quarter_turns : ℤ → Option ℕ
quarter_turns rotation =
    if unsigned_abs rotation % 9000000000 == 0 then Some (if int_lt rotation (pos 0) then (4 - unsigned_abs rotation / 9000000000 % 4) % 4 else unsigned_abs rotation / 9000000000 % 4)
    else None

-- the x of a point that is turned by so many quarters counterclockwise about the point of the flash
abbrev pub turned_x : ℕ → GridPoint → ℤ
turned_x turns p = if turns == 0 then p.x else if turns == 1 then neg_ℤ p.y else if turns == 2 then neg_ℤ p.x else p.y

-- the y of a point after quarter turns
abbrev pub turned_y : ℕ → GridPoint → ℤ
turned_y turns p = if turns == 0 then p.y else if turns == 1 then p.x else if turns == 2 then neg_ℤ p.y else neg_ℤ p.x

-- a point of the grid, where it is no further than 10 m along each axis
abbrev pub grid_point : ℤ → ℤ → Option GridPoint
grid_point x y = if nat_le (unsigned_abs x) max_coordinate && nat_le (unsigned_abs y) max_coordinate then Some (record { x = x; y = y }) else None

-- a value as the size of a primitive in pm, which is not below 0 or beyond 10 m
abbrev pub size_of : Units → ℤ → Option ℕ
size_of unit v = if int_lt v (pos 0) then None else option_map unsigned_abs (result_ok (within_limit (picometres unit 8 v)))

-- a value as the side of a rectangle, which is above 0
abbrev pub side_of : Units → ℤ → Option ℕ
side_of unit v = if int_lt (pos 0) v then size_of unit v else None

-- two values as a point that is turned by so many quarters, where it is no further than 10 m along each axis
abbrev pub point_of_values : Units → ℕ → ℤ → ℤ → Option GridPoint
point_of_values unit turns x y = option_and_then (λ p. grid_point (turned_x turns p) (turned_y turns p)) (grid_point (picometres unit 8 x) (picometres unit 8 y))

-- the quarter turns of a primitive whose exposure is on, that is 1 (Gerber format, Exposure parameter)
abbrev pub dark_turns : ℤ → ℤ → Option ℕ
dark_turns exposure rotation = if int_eq exposure (pos 100000000) then quarter_turns rotation else None

-- ---- circles and lines

-- a circle with these values, turned by so many quarters
abbrev pub circle_at : Units → ℤ → ℤ → ℤ → ℕ → Option Primitive
circle_at unit diameter x y turns = option_and_then (λ d. option_map (λ c. primitive.Circle c d) (point_of_values unit turns x y)) (size_of unit diameter)

-- a vector line with these values, turned by so many quarters
abbrev pub line_at : Units → ℤ → ℤ → ℤ → ℤ → ℤ → ℕ → Option Primitive
line_at unit width x1 y1 x2 y2 turns =
    option_and_then (λ w. option_and_then (λ from. option_map (λ to. primitive.VectorLine from to w) (point_of_values unit turns x2 y2)) (point_of_values unit turns x1 y1)) (size_of unit width)

-- the sides are exchanged by an odd number of quarter turns
abbrev pub with_sides : ℕ → GridPoint → ℕ → ℕ → Primitive
with_sides turns c w h = if turns % 2 == 0 then primitive.CentreLine c w h else primitive.CentreLine c h w

-- a centre line with these values, turned by so many quarters
abbrev pub rectangle_at : Units → ℤ → ℤ → ℤ → ℤ → ℕ → Option Primitive
rectangle_at unit width height x y turns =
    option_and_then (λ w. option_and_then (λ h. option_map (λ c. with_sides turns c w h) (point_of_values unit turns x y)) (side_of unit height)) (side_of unit width)

-- a centre line about the point of the flash, turned by any angle: the diameter of the disc inside of it (Gerber format, Center line, code 21)
abbrev pub turned_rectangle : Units → ℤ → ℤ → ℤ → ℤ → Option Primitive
turned_rectangle unit width height x y =
    if int_eq x (pos 0) && int_eq y (pos 0) then option_and_then (λ w. option_map (λ h. primitive.Turned (min w h)) (side_of unit height)) (side_of unit width) else None

-- ---- outlines

-- two points are equal
abbrev pub is_same : GridPoint → GridPoint → Bool
is_same p q = int_eq p.x q.x && int_eq p.y q.y

-- these are the coordinates of 3 to 4096 points and of the first one again, and the count says of how many
abbrev pub is_count : ℤ → ℕ → Bool
is_count count coordinates =
    (nat_le 8 coordinates && nat_le coordinates 8194) && ((coordinates % 2 == 0) && int_eq count (pos ((coordinates / 2 - 1) * 100000000)))

-- values by twos as points that are turned, where each of them is one
abbrev pub run_of : Units → ℕ → List ℤ → Option (List GridPoint)
run_of unit turns [] = Some []
run_of unit turns (x ∷ []) = None
run_of unit turns (x ∷ y ∷ rest) = option_and_then (λ p. option_map (λ ps. p ∷ ps) (run_of unit turns rest)) (point_of_values unit turns x y)

-- the point at a place, or the one of the flash
abbrev pub point_at : List GridPoint → ℕ → GridPoint
point_at run k = get_or run k (record { x = pos 0; y = pos 0 })

-- the last point is the first one
abbrev pub is_closed : List GridPoint → Bool
is_closed run = not (length run == 0) && is_same (point_at run 0) (point_at run (length run - 1))

-- the points of a run that are not the same as the one before them
abbrev pub moves : List GridPoint → List GridPoint
moves run = filter_map (λ pair. if is_same pair.1 pair.0 then None else Some pair.1) (zip run (drop 1 run))

-- the points of a closed run, each once, or its one point
abbrev pub stops : List GridPoint → List GridPoint
stops run = if length (moves run) == 0 then point_at run 0 ∷ [] else moves run

-- no two points are equal
abbrev pub are_different : List GridPoint → Bool
are_different [] = true
are_different (p ∷ ps) = not (list_any (is_same p) ps) && are_different ps

-- a rounded polygon with half of a size for its radius: of one corner, two different ones, or those of a convex polygon counterclockwise
abbrev pub rounded_of : GridPoint → List GridPoint → ℕ → Option GridRounded
rounded_of first others size =
    if nat_lt (length others) max_corners && (nat_le (size / 2) max_half_side && is_outline first others) then Some (record { first = first; others = others; radius = size / 2 }) else None

-- the point, the line or the polygon of corners in this order
abbrev pub polygon_of : List GridPoint → Option GridRounded
polygon_of [] = None
polygon_of (first ∷ others) = rounded_of first others 0

-- the point, the line or the convex polygon that different corners go round once, in this order or the other way
abbrev pub either_way : List GridPoint → Option GridRounded
either_way corners = if nat_le (length corners) max_corners && are_different corners then option_or (polygon_of corners) (polygon_of (reverse corners)) else None

-- the outline of a run of points: closed, and a point, a line there and back, or a convex polygon once round
abbrev pub outline_of : List GridPoint → Option Primitive
outline_of run = if is_closed run then option_map primitive.Outline (either_way (stops run)) else None

-- the polygon that a closed run goes round once and counterclockwise, where it is convex and has at least three corners
abbrev pub polygon_round : List GridPoint → Option GridRounded
polygon_round run =
    if is_closed run && (nat_le 3 (length (stops run)) && (nat_le (length (stops run)) max_corners && are_different (stops run))) then polygon_of (stops run) else None

-- an outline with these values, whose count is that of its points and whose exposure is on
abbrev pub outline_at : Units → ℤ → ℤ → List ℤ → ℤ → Option Primitive
outline_at unit exposure count coordinates rotation =
    if is_count count (length coordinates) then option_and_then (λ turns. option_and_then outline_of (run_of unit turns coordinates)) (dark_turns exposure rotation) else None

-- ---- regular polygons

-- cos(pi / n) for n from 3 to 12, in 10^-18 and rounded down: a side of a regular polygon of n corners is so far from its centre, in radii of its corners
abbrev pub cosines : List ℕ
cosines = 500000000000000000 ∷ 707106781186547524 ∷ 809016994374947424 ∷ 866025403784438646 ∷ 900968867902419126 ∷ 923879532511286756
    ∷ 939692620785908384 ∷ 951056516295153572 ∷ 959492973614497389 ∷ 965925826289068286 ∷ []

-- the cosine for a number of corners, which is a whole number from 3 to 12
abbrev pub cosine_of : ℤ → Option ℕ
cosine_of v = if int_le (pos 300000000) v && (unsigned_abs v % 100000000 == 0) then slice_get cosines (unsigned_abs v / 100000000 - 3) else None

-- a regular polygon about the point of the flash, dark, turned by any angle: the diameter of the disc inside of it (Gerber format, Polygon, code 5)
abbrev pub polygon_at : Units → ℤ → ℤ → ℤ → ℤ → ℤ → Option Primitive
polygon_at unit exposure corners x y diameter =
    if int_eq exposure (pos 100000000) && (int_eq x (pos 0) && int_eq y (pos 0))
    then option_and_then (λ k. option_map (λ d. primitive.Turned (d * k / 10 ^ 18)) (size_of unit diameter)) (cosine_of corners) else None

-- ---- all primitives

-- The primitive that fields spell, where it is judged (Gerber format, Circle, code 1; Vector line, 20; Center line, 21; Outline, 4; Polygon, 5). The
-- angle of its rotation stands last, and may be left out of a circle; the coordinates of an outline end with those of its first point again.
abbrev pub primitive_by_code : Code → Units → List ℤ → Option Primitive
primitive_by_code code.Circle unit (exposure ∷ diameter ∷ x ∷ y ∷ []) = option_and_then (circle_at unit diameter x y) (dark_turns exposure (pos 0))
primitive_by_code code.Circle unit (exposure ∷ diameter ∷ x ∷ y ∷ angle ∷ []) = option_and_then (circle_at unit diameter x y) (dark_turns exposure angle)
primitive_by_code code.VectorLine unit (exposure ∷ width ∷ x1 ∷ y1 ∷ x2 ∷ y2 ∷ angle ∷ []) = option_and_then (line_at unit width x1 y1 x2 y2) (dark_turns exposure angle)
primitive_by_code code.CentreLine unit (exposure ∷ width ∷ height ∷ x ∷ y ∷ angle ∷ []) =
    if int_eq exposure (pos 100000000) then option_map_or (rectangle_at unit width height x y) (quarter_turns angle) (turned_rectangle unit width height x y) else None
primitive_by_code code.Outline unit (exposure ∷ count ∷ rest) = outline_at unit exposure count (take (length rest - 1) rest) (get_or rest (length rest - 1) (pos 0))
primitive_by_code code.Polygon unit (exposure ∷ corners ∷ x ∷ y ∷ diameter ∷ angle ∷ []) = polygon_at unit exposure corners x y diameter
primitive_by_code _ unit _ = None

-- the primitives that fields spell, where each of them is judged
abbrev pub primitives_of : Units → List Fields → Option (List Primitive)
primitives_of unit [] = Some []
primitives_of unit (f ∷ fs) = option_and_then (λ q. option_map (λ qs. q ∷ qs) (primitives_of unit fs)) (primitive_by_code f.code unit f.values)
