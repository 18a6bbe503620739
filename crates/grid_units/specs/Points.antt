-- Points of the grid, and the squares of their distances. Lengths are whole picometres.
use Rattle.std.specs.Prelude.{ℕ, ℤ, ◌+◌, ◌*◌, ◌≤◌, ◌-ℤ◌, unsigned_abs}

-- a point of the grid: its x and y in pm
pub record GridPoint : Type 0 where
  pub x : ℤ
  pub y : ℤ

-- ten metres in pm, the largest coordinate (docs/FORMATS.md, Limits)
abbrev pub max_coordinate : ℕ
max_coordinate = 10000000000000

-- a coordinate in pm: at most ten metres in absolute value (docs/FORMATS.md, Limits)
abbrev pub IsCoordinate : ℤ → Type 0
IsCoordinate z = unsigned_abs z ≤ max_coordinate

-- a number times itself
abbrev pub square : ℕ → ℕ
square n = n * n

-- how far two whole numbers are apart
abbrev pub abs_diff : ℤ → ℤ → ℕ
abs_diff a b = unsigned_abs (a -ℤ b)

-- the square of the distance of two points; no root is ever taken
abbrev pub square_distance : GridPoint → GridPoint → ℕ
square_distance p q = square (abs_diff p.x q.x) + square (abs_diff p.y q.y)
