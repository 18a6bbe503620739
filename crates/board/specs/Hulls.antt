-- Hulls of shapes: a box, and a box with round corners, that contain all that the shapes cover. All lengths are whole picometres.
use Rattle.std.specs.Prelude.{◌≡◌, ℕ, ◌+◌, ◌-◌, ◌≤◌, Bool, true}
use Rattle.grid_units.specs.Points.{GridPoint, abs_diff, square}
use Rattle.board.specs.declared.hull.Hull.{Hull}

-- a point lies so deep in a hull that the reach stays inside the box, and inside the box with round corners, and is no more than the greatest depth
pub record IsDeepIn (hull : Hull) (c : GridPoint) (reach : ℕ) : Type 0 where
  pub depth : reach ≤ hull.depth
  pub x : abs_diff c.x hull.centre.x + reach ≤ hull.half_x
  pub y : abs_diff c.y hull.centre.y + reach ≤ hull.half_y
  pub radius : reach ≤ hull.radius
  pub round : square (abs_diff c.x hull.centre.x - hull.axis_x) + square (abs_diff c.y hull.centre.y - hull.axis_y) ≤ square (hull.radius - reach)

-- each centre that a shape covers with a reach lies so deep in the hull
abbrev pub IsHullOf : {S : Type 0} → (S → GridPoint → ℕ → Bool) → S → Hull → Type 0
IsHullOf covers s hull = (c : GridPoint) (reach : ℕ) → covers s c reach ≡ true → IsDeepIn hull c reach

-- what lies so deep in one hull lies so deep in the other
abbrev pub IsWiderThan : Hull → Hull → Type 0
IsWiderThan outer inner = (c : GridPoint) (reach : ℕ) → IsDeepIn inner c reach → IsDeepIn outer c reach
