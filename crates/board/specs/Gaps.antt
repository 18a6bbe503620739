-- The gap between two holes. All lengths are whole picometres.
use Rattle.std.specs.Prelude.{◌↔◌, ℕ, ℤ, pos, ◌+◌, ◌≤◌, ◌+ℤ◌, ◌≤ℤ◌}
use Rattle.grid_units.specs.Points.{square}
use Rattle.grid_units.specs.Holes.{GridHole}
use Rattle.ring_rules.specs.Cores.{square_of_cores}

-- the gap of two holes: the distance of their cores, rounded down to whole pm, less both radii; below 0 where the holes overlap
abbrev pub IsGap : GridHole → GridHole → ℤ → Type 0
IsGap a b gap = (length : ℕ) → (square length ≤ square_of_cores a b) ↔ (pos length ≤ℤ (gap +ℤ pos (a.radius + b.radius)))
