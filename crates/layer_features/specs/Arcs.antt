-- Which sides of a contour are arcs: both ends of one lie equally far from its centre, and it lies beside its chord (Gerber format, G75 and G74).
use Rattle.std.specs.Prelude.{ℕ, ◌+◌, ◌-◌, ◌*◌, ◌-ℤ◌, Bool, false, not, ◌&&◌, nat_le, nat_lt, max, min, Option, Some}
use Rattle.grid_units.specs.Laws.{square_length}
use Rattle.grid_units.specs.Points.{GridPoint, square, square_distance}
use Rattle.macro_shapes.specs.Primitives.{is_same}
use Rattle.gerber_commands.specs.declared.command.QuadrantMode.{QuadrantMode}
use Rattle.gerber_commands.specs.declared.command.QuadrantMode.TheVariants as quadrant

-- how much the radii at the two ends of an arc may differ: 2 um, in pm (docs/FORMATS.md, Further copper)
abbrev pub radius_slack : ℕ
radius_slack = 2000000

-- The roots of two numbers differ by at most the slack: the greater root is at most the lesser one and the slack, which can be said without roots,
-- since the greater number is then at most the lesser one, the square of the slack, and twice the slack times the lesser root.
abbrev pub differ_little : ℕ → ℕ → Bool
differ_little more less = nat_le (square (more - (less + square radius_slack))) (4 * square radius_slack * less)

-- the square of the radius of an arc at its start, with the centre at this offset from it
abbrev pub start_square : GridPoint → ℕ
start_square centre = square_length centre.x centre.y

-- the square of the radius of an arc at its end
abbrev pub end_square : GridPoint → GridPoint → GridPoint → ℕ
end_square from to centre = square_length ((to.x -ℤ from.x) -ℤ centre.x) ((to.y -ℤ from.y) -ℤ centre.y)

-- the squares of the radii of an arc in pm: neither is 0 or above 1 m, and the radii differ by at most 2 um (docs/FORMATS.md, Further copper)
abbrev pub are_radii : ℕ → ℕ → Bool
are_radii a b = nat_lt 0 (min a b) && nat_le (max a b) (square 1000000000000) && differ_little (max a b) (min a b)

-- An arc with these squares of its radii at its ends, and of its chord, leaves and reaches the chord on its outer side: the squares of the radii differ by at most that of
-- the chord, so neither end lies beyond the tangent at the other one. An arc that is all but a full circle could else lie on both sides of its chord.
abbrev pub is_beside_chord : ℕ → ℕ → ℕ → Bool
is_beside_chord a b chord = nat_le (max a b - min a b) chord

-- both ends lie equally far, but for the slack, from a centre at this offset from the start, and the arc lies beside its chord
abbrev pub are_ends : GridPoint → GridPoint → GridPoint → Bool
are_ends from to centre = are_radii (start_square centre) (end_square from to centre) && is_beside_chord (start_square centre) (end_square from to centre) (square_distance from to)

-- an arc from one point to another point round a centre, in the mode of several quadrants; full circles, and arcs in the mode of a single quadrant,
-- count as no sides (Gerber format, G75 and G74)
abbrev pub is_arc : Option QuadrantMode → GridPoint → GridPoint → Option GridPoint → Bool
is_arc (Some quadrant.Multi) from to (Some centre) = not (is_same from to) && are_ends from to centre
is_arc _ from to _ = false
