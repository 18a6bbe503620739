-- Places along an axis, the cells of a grid, and chains of the holes in each cell.
use Rattle.std.specs.Prelude.{◌≡◌, None, ℕ, ℤ, pos, ◌+◌, ◌/◌, ◌^◌, ◌<◌, ◌-ℤ◌, false, List, length, get_or}
use Rattle.grid_units.specs.Holes.{GridHole}
use Rattle.grid_units.specs.Points.{GridPoint}
use Rattle.ring_rules.specs.Cores.{positive_part}
use Rattle.ring_rules.specs.declared.finding.Drilled.{Drilled}

-- how many whole steps of 2^shift pm a coordinate lies above the low end of an axis, 0 below it
abbrev pub steps_above : ℤ → ℕ → ℤ → ℕ
steps_above low shift v = positive_part (v -ℤ low) / 2 ^ shift

-- the hole that stands for a place past the end of a list
abbrev pub default_hole : Drilled
default_hole = record { hole = record { from = record { x = pos 0; y = pos 0 }; to = record { x = pos 0; y = pos 0 }; radius = 1 }; plated = false; span = None }

-- the hole at a place of the list
abbrev pub hole_at : List Drilled → ℕ → GridHole
hole_at holes k = (get_or holes k default_hole).hole

-- the entry point of the hole at a place: the first end of a slot, the centre of a round hole
abbrev pub entry_at : List Drilled → ℕ → GridPoint
entry_at holes k = (get_or holes k default_hole).hole.from

-- Chains of the first n places. A link is a place plus one, or 0 at the end: that of a cell leads to its greatest place, that of
-- a place to the next lower place of its cell.
pub record IsChained (cell : ℕ → ℕ) (n : ℕ) (head next : List ℕ) : Type 0 where
  pub size : length next ≡ n
  pub heads : (k : ℕ) → k < n → k < get_or head (cell k) 0
  pub heads_in : (c m : ℕ) → get_or head c 0 ≡ m + 1 → (m < n) × (cell m ≡ c)
  pub links : (j k : ℕ) → j < n → k < j → cell k ≡ cell j → k < get_or next j 0
  pub links_in : (j m : ℕ) → j < n → get_or next j 0 ≡ m + 1 → (m < j) × (cell m ≡ cell j)
