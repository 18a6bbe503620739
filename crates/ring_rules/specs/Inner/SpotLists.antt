-- Lists of spots as they grow, cell by cell.
use Rattle.std.specs.Prelude.{◌≡◌, ℕ, ◌+◌, ◌<◌, ◌≤◌, List, length, get_or, drop}
use Rattle.std.specs.List.Sorted.{IsPermutation}
use Rattle.grid_units.specs.Points.{GridPoint}
use Rattle.ring_rules.specs.Places.{entry_at}
use Rattle.ring_rules.specs.Spots.{spot_at, point_at, IsSpotOf, HasSpot}
use Rattle.ring_rules.specs.declared.finding.Drilled.{Drilled}
use Rattle.ring_rules.specs.declared.spots.Spot.{Spot}

-- only spots of a cell were appended
pub record AddsSpots (cell : GridPoint → ℕ) (holes : List Drilled) (c : ℕ) (before after : List Spot) : Type 0 where
  pub longer : length before ≤ length after
  pub kept : (i : ℕ) → i < length before → spot_at after i ≡ spot_at before i
  pub each : (i : ℕ) → length before ≤ i → i < length after → IsSpotOf holes (spot_at after i)
  pub here : (i : ℕ) → length before ≤ i → i < length after → cell (point_at after i) ≡ c

-- the spots from an index on were put in another order, and those before it stayed
pub record Regroups (start : ℕ) (before after : List Spot) : Type 0 where
  pub size : length after ≡ length before
  pub kept : (i : ℕ) → i < start → spot_at after i ≡ spot_at before i
  pub same : IsPermutation (drop start before) (drop start after)

-- the spots of the first `c` cells, in the order of their cells, and the starts of these cells and of the next one
pub record AreSpotted (cell : GridPoint → ℕ) (holes : List Drilled) (c : ℕ) (starts : List ℕ) (spots : List Spot) : Type 0 where
  pub size : length starts ≡ c + 1
  pub last : get_or starts c 0 ≡ length spots
  pub rises : (a b : ℕ) → a ≤ b → b < length starts → get_or starts a 0 ≤ get_or starts b 0
  pub begun : (i : ℕ) → i < length spots → get_or starts (cell (point_at spots i)) 0 ≤ i
  pub ended : (i : ℕ) → i < length spots → i < get_or starts (cell (point_at spots i) + 1) 0
  pub each : (i : ℕ) → i < length spots → IsSpotOf holes (spot_at spots i)
  pub all : (k : ℕ) → k < length holes → cell (entry_at holes k) < c → HasSpot spots k
