-- The border of a polygon, size by size.
use Rattle.std.specs.Prelude.{ℕ, max, min, ◌==◌, List, length, if◌then◌else◌, Option, None, Some}
use Rattle.std.specs.List.{fold}
use Rattle.grid_units.specs.Points.{GridPoint}
use Rattle.pad_shapes.specs.Rounded.{GridRounded, Edge, edges}
use Rattle.macro_shapes.specs.Shapes.{diameter_at, width_along, disc_at, line_along, shape_from, wider}
use Rattle.macro_shapes.specs.declared.primitive.Primitive.{Primitive}

-- the one of two values that is chosen, of which one or both may lack
abbrev pub chosen : {V : Type 0} → (V → V → V) → Option V → Option V → Option V
chosen choose None b = b
chosen choose (Some a) None = Some a
chosen choose (Some a) (Some b) = Some (choose a b)

-- the lesser of two sizes, where none lacks
abbrev pub least : Option ℕ → Option ℕ → Option ℕ
least None b = None
least (Some a) None = None
least (Some a) (Some b) = Some (min a b)

-- the greatest diameter of the circles at a point, primitive by primitive
abbrev pub disc_in_turn : List Primitive → GridPoint → Option ℕ
disc_in_turn qs v = fold (λ found q. chosen max found (diameter_at v q)) None qs

-- the greatest width of the vector lines along an edge, primitive by primitive
abbrev pub line_in_turn : List Primitive → Edge → Option ℕ
line_in_turn qs e = fold (λ found q. chosen max found (width_along e q)) None qs

-- the shape of a macro, primitive by primitive of these
abbrev pub shape_in_turn : List Primitive → List Primitive → Option GridRounded
shape_in_turn qs taken = fold (λ found q. chosen wider found (shape_from qs q)) None taken

-- the least of the circles at the corners, corner by corner
abbrev pub discs_in_turn : List Primitive → GridRounded → Option ℕ
discs_in_turn qs r = fold (λ found v. least found (disc_at qs v)) (disc_at qs r.first) r.others

-- the border, edge by edge
abbrev pub border_in_turn : List Primitive → GridRounded → Option ℕ
border_in_turn qs r = if length r.others == 0 then discs_in_turn qs r else fold (λ found e. least found (line_along qs e)) (discs_in_turn qs r) (edges r)
