-- Spots: the holes of a list in the order of their cells, each with its place in the list.
use Rattle.std.specs.Prelude.{◌≡◌, ℕ, ◌+◌, ◌*◌, ◌^◌, ◌<◌, ◌≤◌, List, length, get_or}
use Rattle.grid_units.specs.Points.{GridPoint}
use Rattle.ring_rules.specs.Places.{default_hole, hole_at}
use Rattle.ring_rules.specs.Cells.{cell_of}
use Rattle.ring_rules.specs.declared.finding.Drilled.{Drilled}
use Rattle.ring_rules.specs.declared.spots.Spot.{Spot}
use Rattle.ring_rules.specs.declared.cell_size.Axis.{Axis}

-- the spot that stands for an index past the end of the spots
abbrev pub default_spot : Spot
default_spot = record { hole = default_hole.hole; place = 0 }

-- the spot at an index
abbrev pub spot_at : List Spot → ℕ → Spot
spot_at spots i = get_or spots i default_spot

-- the entry point of the hole of the spot at an index
abbrev pub point_at : List Spot → ℕ → GridPoint
point_at spots i = (spot_at spots i).hole.from

-- a place of a list, with its hole
pub record IsSpotOf (holes : List Drilled) (spot : Spot) : Type 0 where
  pub listed : spot.place < length holes
  pub same : spot.hole ≡ hole_at holes spot.place

-- there is a spot of the hole at a place
abbrev pub HasSpot : List Spot → ℕ → Type 0
HasSpot spots k = (i : ℕ) × (i < length spots) × ((spot_at spots i).place ≡ k)

-- the spots are of a list, and each hole of the list has one
pub record AreSpotsOf (holes : List Drilled) (spots : List Spot) : Type 0 where
  pub each : (i : ℕ) → i < length spots → IsSpotOf holes (spot_at spots i)
  pub all : (k : ℕ) → k < length holes → HasSpot spots k

-- The spots stand in the order of their cells: each at the start of its cell or later, and before the start of the next one. There
-- are at most 2^62 cells.
pub record AreInCells (x y : Axis) (starts : List ℕ) (spots : List Spot) : Type 0 where
  pub size : length starts ≡ (y.last + 1) * (x.last + 1) + 1
  pub rises : (c d : ℕ) → c ≤ d → d < length starts → get_or starts c 0 ≤ get_or starts d 0
  pub within : (c : ℕ) → get_or starts c 0 ≤ length spots
  pub begun : (i : ℕ) → i < length spots → get_or starts (cell_of x y (point_at spots i)) 0 ≤ i
  pub ended : (i : ℕ) → i < length spots → i < get_or starts (cell_of x y (point_at spots i) + 1) 0
  pub fits : (y.last + 1) * (x.last + 1) ≤ 2 ^ 62
