-- The distance of the cores of two holes, computed from their ends. A core is the least box that contains both ends.
use Rattle.std.specs.Prelude.{ℕ, ℤ, pos, negsuc, ◌+◌, max, ◌-ℤ◌, Bool, nat_le}
use Rattle.std.specs.Int.{int_min, int_max}
use Rattle.grid_units.specs.Points.{square}
use Rattle.grid_units.specs.Holes.{GridHole, AreClear, AreApart}

-- a whole number, or 0 where it is below 0
abbrev pub positive_part : ℤ → ℕ
positive_part (pos n) = n
positive_part (negsuc n) = 0

-- how far the ranges from a to b and from c to d are apart, 0 where they meet; the ends of each may be in any order
abbrev pub range_distance : ℤ → ℤ → ℤ → ℤ → ℕ
range_distance a b c d = max (positive_part (int_min c d -ℤ int_max a b)) (positive_part (int_min a b -ℤ int_max c d))

-- the square of the distance of two cores: the sum of the squares of their distances along x and along y
abbrev pub square_of_cores : GridHole → GridHole → ℕ
square_of_cores a b =
    square (range_distance a.from.x a.to.x b.from.x b.to.x) + square (range_distance a.from.y a.to.y b.from.y b.to.y)

-- the test of two holes for the gap, by whole numbers alone; `clear_of` proves that it says just whether they are clear
abbrev pub are_clear : ℕ → GridHole → GridHole → Bool
are_clear gap a b = nat_le (square (a.radius + b.radius + gap)) (square_of_cores a b)

-- no points of two clear holes are nearer than the gap
abbrev pub ClearHolesAreApart : Type 0
ClearHolesAreApart = (gap : ℕ) (a b : GridHole) → AreClear gap a b → AreApart gap a b
