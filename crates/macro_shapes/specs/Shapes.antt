-- The shape of a macro: a rounded polygon that is inside of its primitives.
use Rattle.std.specs.Prelude.{◌≡◌, ℕ, ℤ, pos, ◌+ℤ◌, ◌-ℤ◌, ◌/◌, max, min, Bool, ◌&&◌, ◌||◌, ◌==◌, not, nat_le, nat_lt, List, [], ◌∷◌, ◌++◌, length, map, slice_get, if◌then◌else◌, Option, None, Some, is_none, option_and_then, unwrap_or}
use Rattle.std.specs.Int.{abs_diff, int_min, int_max}
use Rattle.std.specs.List.{filter_map, list_all, list_any, reduce, Contains}
use Rattle.std.specs.Option.{option_map_or, option_or}
use Rattle.std.specs.Ordering.{int_eq}
use Rattle.grid_units.specs.Points.{GridPoint, max_coordinate}
use Rattle.pad_shapes.specs.Rounded.{GridRounded, Edge, corners, edges, rounded_covers, IsInRounded}
use Rattle.macro_shapes.specs.Primitives.{IsInPrimitive, grid_point, is_same, rounded_of}
use Rattle.macro_shapes.specs.declared.primitive.Primitive.{Primitive}
use Rattle.macro_shapes.specs.declared.primitive.Primitive.TheVariants as primitive

-- ---- the border of a polygon

-- the diameter of a circle at this point
abbrev pub diameter_at : GridPoint → Primitive → Option ℕ
diameter_at v (primitive.Circle centre diameter) = if is_same centre v then Some diameter else None
diameter_at v _ = None

-- the width of a vector line along this edge, in either direction
abbrev pub width_along : Edge → Primitive → Option ℕ
width_along e (primitive.VectorLine from to width) = if (is_same from e.from && is_same to e.to) || (is_same from e.to && is_same to e.from) then Some width else None
width_along e _ = None

-- the greatest diameter of the circles at a point
unfoldable pub disc_at : List Primitive → GridPoint → Option ℕ
disc_at qs v = reduce max (filter_map (diameter_at v) qs)

-- the greatest width of the vector lines along an edge
unfoldable pub line_along : List Primitive → Edge → Option ℕ
line_along qs e = reduce max (filter_map (width_along e) qs)

-- the least of some sizes, where none of them is missing
abbrev pub least_of : List (Option ℕ) → Option ℕ
least_of sizes = if list_any is_none sizes then None else reduce min (filter_map (λ size. size) sizes)

-- the least of the diameters of the circles at the corners and of the widths of the vector lines along the edges, where none is missing; one corner has no edges
unfoldable pub border : List Primitive → GridRounded → Option ℕ
border qs r = least_of (map (disc_at qs) (corners r) ++ map (line_along qs) (if length r.others == 0 then [] else edges r))

-- ---- rectangles

-- the rectangle with these sides
abbrev pub rectangle_of : ℤ → ℤ → ℤ → ℤ → Option GridRounded
rectangle_of left bottom right top =
    option_and_then (λ a. option_and_then (λ b. option_and_then (λ c. option_and_then (λ d. rounded_of a (b ∷ c ∷ d ∷ []) 0) (grid_point left top)) (grid_point right top)) (grid_point right bottom)) (grid_point left bottom)

-- the rectangle about a centre
abbrev pub rectangle_about : GridPoint → ℕ → ℕ → Option GridRounded
rectangle_about c width height =
    if nat_le width max_coordinate && nat_le height max_coordinate
    then rectangle_of (c.x -ℤ pos (width / 2)) (c.y -ℤ pos (height / 2)) (c.x +ℤ pos (width / 2)) (c.y +ℤ pos (height / 2)) else None

-- the rectangle about a line along an axis
abbrev pub rectangle_along : GridPoint → GridPoint → ℕ → Option GridRounded
rectangle_along a b width =
    if not (nat_le width max_coordinate) then None
    else if int_eq a.y b.y then rectangle_of (int_min a.x b.x) (a.y -ℤ pos (width / 2)) (int_max a.x b.x) (a.y +ℤ pos (width / 2))
    else if int_eq a.x b.x then rectangle_of (a.x -ℤ pos (width / 2)) (int_min a.y b.y) (a.x +ℤ pos (width / 2)) (int_max a.y b.y) else None

-- ---- shapes

-- the line without a width from one point to another, and one corner where they are equal
abbrev pub segment : GridPoint → GridPoint → GridRounded
segment a b = record { first = a; others = if is_same a b then [] else b ∷ []; radius = 0 }

-- the shape of a vector line: with round ends where there are circles at its ends and a line between them, else with square ends, along an axis
abbrev pub line_shape : List Primitive → GridPoint → GridPoint → ℕ → Option GridRounded
line_shape qs a b width = option_map_or (rounded_of a (segment a b).others) (border qs (segment a b)) (rectangle_along a b width)

-- the outline with its border, and without one where a circle or a line is missing; a flat outline has no shape without a border
abbrev pub with_border : GridRounded → ℕ → Option GridRounded
with_border r size = if nat_lt 1 (length r.others) || nat_lt 0 size then rounded_of r.first r.others size else None

-- ---- crosses

-- two rectangles about one centre cross: one of them is no wider, and the other no taller
abbrev pub do_cross : ℕ → ℕ → ℕ → ℕ → Bool
do_cross width height other_width other_height = (nat_le other_width width && nat_le height other_height) || (nat_le width other_width && nat_le other_height height)

-- the sides of a primitive that is a rectangle about this centre and crosses the one with these sides
abbrev pub crossing_sides : GridPoint → ℕ → ℕ → Primitive → Option (ℕ × ℕ)
crossing_sides c w h (primitive.CentreLine centre width height) = if is_same centre c && do_cross w h width height then Some (width, height) else None
crossing_sides c w h _ = None

-- the least of the circles at the corners of the common part of two rectangles and of the differences of their widths and heights, if no circle is missing
unfoldable pub cross_border : List Primitive → GridRounded → ℕ → ℕ → Option ℕ
cross_border qs common widths heights = least_of (map (disc_at qs) (corners common) ++ Some widths ∷ Some heights ∷ [])

-- the common part with a border above 0
abbrev pub with_arms : GridRounded → ℕ → Option GridRounded
with_arms common size = if nat_lt 0 size then rounded_of common.first common.others size else None

-- the shape of two rectangles about a centre that cross: their common part with its border, where that is above 0
abbrev pub cross_shape : List Primitive → GridPoint → ℕ → ℕ → ℕ × ℕ → Option GridRounded
cross_shape qs c width height other =
    option_and_then (λ common. with_arms common (unwrap_or (cross_border qs common (abs_diff width other.0) (abs_diff height other.1)) 0)) (rectangle_about c (min width other.0) (min height other.1))

-- the shape of a centre line: with the one that crosses it, where the second primitive is such a one, and else the rectangle alone
abbrev pub centre_shape : List Primitive → GridPoint → ℕ → ℕ → Option GridRounded
centre_shape qs c width height =
    option_or (option_and_then (cross_shape qs c width height) (option_and_then (crossing_sides c width height) (slice_get qs 1))) (rectangle_about c width height)

-- ---- shapes by each primitive

-- the shape of these primitives by this one of them; the others, all dark, only add to it
abbrev pub shape_from : List Primitive → Primitive → Option GridRounded
shape_from qs (primitive.Circle centre diameter) = rounded_of centre [] diameter
shape_from qs (primitive.VectorLine from to width) = line_shape qs from to width
shape_from qs (primitive.CentreLine centre width height) = centre_shape qs centre width height
shape_from qs (primitive.Outline corners) = with_border corners (unwrap_or (border qs corners) 0)
shape_from qs (primitive.Turned inner) = rounded_of (record { x = pos 0; y = pos 0 }) [] inner

-- a shape holds another one: it covers the disc about each of its corners that reaches as far round it as its copper does
abbrev pub holds : GridRounded → GridRounded → Bool
holds r other = list_all (λ c. rounded_covers r c other.radius) (corners other)

-- a shape is a disc about the point of the flash, which is the same however it is mirrored and turned
abbrev pub is_centred_disc : GridRounded → Bool
is_centred_disc r = (length r.others == 0) && is_same r.first (record { x = pos 0; y = pos 0 })

-- the second of two shapes where it holds the first one and that is no such disc, else the first
abbrev pub wider : GridRounded → GridRounded → GridRounded
wider a b = if not (is_centred_disc a) && holds b a then b else a

-- the shape of a macro with these primitives: by the first of them that gives one, and by each later one in turn whose shape holds the one before it; a disc about the point of the
-- flash stays, since it counts at any turn
abbrev pub shape_of : List Primitive → Option GridRounded
shape_of qs = reduce wider (filter_map (shape_from qs) qs)

-- each point of a macro's shape is a point of one of its primitives
abbrev pub ShapeIsInPrimitives : Type 0
ShapeIsInPrimitives = (qs : List Primitive) (s : GridRounded) → shape_of qs ≡ Some s → (p : GridPoint) → IsInRounded s p → (q : Primitive) × Contains qs q × IsInPrimitive q p
