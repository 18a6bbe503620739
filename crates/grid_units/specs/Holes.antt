-- Drilled holes, and the rules for their rings and gaps. Lengths are whole picometres.
use Rattle.std.specs.Prelude.{ℕ, ℤ, ◌≤◌, ◌+◌, ◌≤ℤ◌, pos, Bool, ◌&&◌}
use Rattle.std.specs.Int.{int_min, int_max}
use Rattle.std.specs.Ordering.{int_eq}
use Rattle.grid_units.specs.Points.{GridPoint, square_distance, square, max_coordinate}
use Rattle.grid_units.specs.declared.profile.Profile.{Profile}

-- a drilled hole, the path of a tool of this radius from one end to the other: round where they are equal, else a slot (`G85`)
pub record GridHole : Type 0 where
  pub from : GridPoint
  pub to : GridPoint
  pub radius : ℕ

-- five metres in pm, the largest radius of a hole (docs/FORMATS.md, Limits)
abbrev pub max_radius : ℕ
max_radius = 5000000000000

-- the radius of a hole, from 1 pm to 5 m (docs/FORMATS.md, Limits)
abbrev pub IsRadius : ℕ → Type 0
IsRadius n = (1 ≤ n) × (n ≤ max_radius)

-- the rules: the annular ring that a plated hole needs, and the gap that two holes need, in pm; and the profile in which the board is read
pub record GridRules : Type 0 where
  pub ring : ℕ
  pub gap : ℕ
  pub profile : Profile

-- the ring is at least 0 pm, the gap at least 1 pm, and neither is above 10 m
abbrev pub AreRules : ℤ → ℤ → Type 0
AreRules ring gap = (pos 0 ≤ℤ ring) × (ring ≤ℤ pos max_coordinate) × (pos 1 ≤ℤ gap) × (gap ≤ℤ pos max_coordinate)

-- z lies between a and b, both included, whichever of them is the greater
abbrev pub IsBetween : ℤ → ℤ → ℤ → Type 0
IsBetween a b z = (int_min a b ≤ℤ z) × (z ≤ℤ int_max a b)

-- p lies in the least box that contains both ends: the centre of a round hole, the centre line of a slot along an axis
abbrev pub IsInCore : GridHole → GridPoint → Type 0
IsInCore h p = IsBetween h.from.x h.to.x p.x × IsBetween h.from.y h.to.y p.y

-- p lies within the radius of some point of the core: the points of the hole, and further points where a slot is oblique
abbrev pub IsInHole : GridHole → GridPoint → Type 0
IsInHole h p = (c : GridPoint) × IsInCore h c × (square_distance c p ≤ square h.radius)

-- each point of one core is at least both radii and the gap away from each point of the other
abbrev pub AreClear : ℕ → GridHole → GridHole → Type 0
AreClear gap a b = (p q : GridPoint) → IsInCore a p → IsInCore b q → square (a.radius + b.radius + gap) ≤ square_distance p q

-- each point of one hole is at least the gap away from each point of the other
abbrev pub AreApart : ℕ → GridHole → GridHole → Type 0
AreApart gap a b = (p q : GridPoint) → IsInHole a p → IsInHole b q → square gap ≤ square_distance p q

-- both ends are the same point, so that the hole is no slot
abbrev pub is_round : GridHole → Bool
is_round h = int_eq h.from.x h.to.x && int_eq h.from.y h.to.y
