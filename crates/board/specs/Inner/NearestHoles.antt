-- The two nearest holes of a list, pair by pair.
use Rattle.std.specs.Prelude.{◌≡◌, ℕ, ℤ, pos, neg_ℤ, ◌<◌, ◌≤◌, ◌<ℤ◌, ◌≤ℤ◌, ◌⊎◌, min, max, List, length, get_or, take}
use Rattle.ring_rules.specs.Index.{IsIndexOf}
use Rattle.ring_rules.specs.Near.{size_of, AreLimits}
use Rattle.ring_rules.specs.Places.{hole_at}
use Rattle.ring_rules.specs.declared.finding.Drilled.{Drilled}
use Rattle.board.specs.Gaps.{IsGap}
use Rattle.board.specs.NearestHoles.{IsPair, IsNoFurther}
use Rattle.board.specs.declared.nearest.Nearest.{Nearest}
use Rattle.board.specs.declared.nearest.Prefix.{Prefix}

-- the range of the gap of two holes: from -10 m to 30 m
abbrev pub IsGapInRange : ℤ → Type 0
IsGapInRange gap = (neg_ℤ (pos 10000000000000) ≤ℤ gap) × (gap ≤ℤ pos 30000000000000)

-- the pair of the holes at two places, with its gap
pub record IsPairAt (holes : List Drilled) (first second : ℕ) (pair : Nearest) : Type 0 where
  pub at_first : pair.first ≡ first
  pub at_second : pair.second ≡ second
  pub gap : IsGap (hole_at holes first) (hole_at holes second) pair.gap
  pub possible : IsGapInRange pair.gap

-- a pair of the list, with its gap
pub record IsPairInRange (holes : List Drilled) (pair : Nearest) : Type 0 where
  pub listed : IsPair holes pair.first pair.second
  pub gap : IsGap (hole_at holes pair.first) (hole_at holes pair.second) pair.gap
  pub possible : IsGapInRange pair.gap

-- a pair of the list that is no further than `best`, nor than the holes at two places where these are a pair
pub record IsNearerPair (holes : List Drilled) (first second : ℕ) (best result : Nearest) : Type 0 where
  pub held : IsPairInRange holes result
  pub back : IsNoFurther result best.first best.second best.gap
  pub new : (gap : ℤ) → IsPair holes first second → IsGap (hole_at holes first) (hole_at holes second) gap → IsNoFurther result first second gap

-- the gap of the holes at two different places of the list
pub record IsGapOf (holes : List Drilled) (a b : ℕ) (z : ℤ) : Type 0 where
  pub listed : IsPair holes (min a b) (max a b)
  pub gap : IsGap (hole_at holes (min a b)) (hole_at holes (max a b)) z

-- a pair of the list that is no further than `before`, nor than a hole with the holes at the first `count` of some places
pub record IsNearestAmong (holes : List Drilled) (place : ℕ) (near : List ℕ) (count : ℕ) (before after : Nearest) : Type 0 where
  pub held : IsPairInRange holes after
  pub back : IsNoFurther after before.first before.second before.gap
  pub seen : (i : ℕ) (gap : ℤ) → i < count → IsGapOf holes place (get_or near i 0) gap → IsNoFurther after (min place (get_or near i 0)) (max place (get_or near i 0)) gap

-- the first holes of a list, with an index of them and lengths that none of them exceeds
pub record IsPrefix (holes : List Drilled) (prefix : Prefix) : Type 0 where
  pub inside : prefix.count ≤ length holes
  pub index : IsIndexOf (take prefix.count holes) prefix.index
  pub limits : AreLimits (take prefix.count holes) prefix.limits

-- A pair of the list that is no further than `before`, nor than a hole with any of the first `count`. Only those count that are
-- no larger than it and have a gap less than `below`.
pub record IsNearestForHole (holes : List Drilled) (count place : ℕ) (below : ℤ) (before after : Nearest) : Type 0 where
  pub held : IsPairInRange holes after
  pub back : IsNoFurther after before.first before.second before.gap
  pub seen : (o : ℕ) (gap : ℤ) → o < count → size_of (hole_at holes o) ≤ size_of (hole_at holes place) → IsGapOf holes place o gap → gap <ℤ below → IsNoFurther after (min place o) (max place o) gap

-- A pair of the list that is no further than any of the first `count` holes with one that is no larger; or its gap is no greater,
-- and its first hole comes before the larger one.
pub record IsNearestForAll (holes : List Drilled) (count : ℕ) (best : Nearest) : Type 0 where
  pub held : IsPairInRange holes best
  pub seen : (p o : ℕ) (gap : ℤ) → p < count → o < length holes → size_of (hole_at holes o) ≤ size_of (hole_at holes p) → IsGapOf holes p o gap
      → IsNoFurther best (min p o) (max p o) gap ⊎ ((best.gap ≤ℤ gap) × (best.first < p))

-- A pair of the list that is no further than `before`, nor than a hole from `from` to `count` with one before `from`. Only those
-- count that are no larger and whose gap is at most that of `before`.
pub record IsNearestForLater (holes : List Drilled) (from count : ℕ) (before after : Nearest) : Type 0 where
  pub held : IsPairInRange holes after
  pub back : IsNoFurther after before.first before.second before.gap
  pub seen : (p o : ℕ) (gap : ℤ) → from ≤ p → p < count → o < from → size_of (hole_at holes o) ≤ size_of (hole_at holes p) → IsGapOf holes p o gap → gap ≤ℤ before.gap → IsNoFurther after (min p o) (max p o) gap
