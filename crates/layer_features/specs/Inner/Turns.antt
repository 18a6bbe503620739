-- Runs of points that go round no convex polygon.
use Rattle.std.specs.Prelude.{ℤ, pos, Bool, true, false, ◌&&◌, ◌||◌, int_lt, List, ◌∷◌}
use Rattle.grid_units.specs.Points.{GridPoint}
use Rattle.pad_shapes.specs.Rounded.{cross}

-- three points turn to the left, or to the right, by twice the area of their triangle
abbrev pub is_turn : Bool → ℤ → Bool
is_turn true area = int_lt (pos 0) area
is_turn false area = int_lt area (pos 0)

-- a run turns to the left at some point, or to the right: the next one lies on that side of the way to it
abbrev pub turns : Bool → List GridPoint → Bool
turns left (a ∷ b ∷ c ∷ rest) = is_turn left (cross (record { from = a; to = b }) c) || turns left (b ∷ c ∷ rest)
turns left _ = false

-- a run turns to the left at some point
abbrev pub turns_left : List GridPoint → Bool
turns_left run = turns true run

-- a run turns to the right at some point
abbrev pub turns_right : List GridPoint → Bool
turns_right run = turns false run

-- a run turns to the left at one point and to the right at another
abbrev pub turns_both_ways : List GridPoint → Bool
turns_both_ways run = turns_left run && turns_right run
