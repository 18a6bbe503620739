-- The two holes of a list that are nearest to each other. All lengths are whole picometres.
use Rattle.std.specs.Prelude.{◌≡◌, ℕ, ℤ, ◌<◌, ◌≤◌, ◌≤ℤ◌, Option, Some, None, List, length}
use Rattle.ring_rules.specs.Places.{hole_at}
use Rattle.ring_rules.specs.declared.finding.Drilled.{Drilled}
use Rattle.board.specs.Gaps.{IsGap}
use Rattle.board.specs.declared.nearest.Nearest.{Nearest}

-- two places of a list, the lesser one first
pub record IsPair (holes : List Drilled) (i j : ℕ) : Type 0 where
  pub ordered : i < j
  pub inside : j < length holes

-- a pair is no further than another one with a gap: it comes first by the gap, then by the first place, then by the second
pub record IsNoFurther (pair : Nearest) (i j : ℕ) (gap : ℤ) : Type 0 where
  pub by_gap : pair.gap ≤ℤ gap
  pub by_first : pair.gap ≡ gap → pair.first ≤ i
  pub by_second : pair.gap ≡ gap → pair.first ≡ i → pair.second ≤ j

-- one of some pairs, with its gap, that is no further than each of them
pub record IsNearest (holes : List Drilled) (among : ℕ → ℕ → Type 0) (pair : Nearest) : Type 0 where
  pub there : among pair.first pair.second
  pub gap : IsGap (hole_at holes pair.first) (hole_at holes pair.second) pair.gap
  pub least : (i j : ℕ) (gap : ℤ) → among i j → IsGap (hole_at holes i) (hole_at holes j) gap → IsNoFurther pair i j gap

-- the nearest of some pairs, or none where there are none
abbrev pub IsNearestOf : List Drilled → (ℕ → ℕ → Type 0) → Option Nearest → Type 0
IsNearestOf holes among None = (i j : ℕ) → among i j → ⊥
IsNearestOf holes among (Some pair) = IsNearest holes among pair
