-- Pairs of holes that are not clear. Each hole looks for those that are no larger than itself.
use Rattle.std.specs.Prelude.{◌≡◌, ℕ, ◌<◌, ◌≤◌, ◌⊎◌, min, max, false, List, length, get_or}
use Rattle.std.specs.List.{Contains}
use Rattle.ring_rules.specs.Cores.{are_clear}
use Rattle.ring_rules.specs.Near.{size_of, IsWithinLimits}
use Rattle.ring_rules.specs.Spots.{spot_at}
use Rattle.ring_rules.specs.declared.finding.Drilled.{Drilled}
use Rattle.ring_rules.specs.declared.spots.Spot.{Spot}
use Rattle.ring_rules.specs.declared.limits.Limits.{Limits}

-- two places as a pair, the lesser one first
abbrev pub in_order : ℕ → ℕ → ℕ × ℕ
in_order a b = (min a b, max a b)

-- two places of the list, the lesser one first, with holes that are not clear
pub record IsClash (gap : ℕ) (holes : List Drilled) (p : ℕ × ℕ) : Type 0 where
  pub ordered : p.0 < p.1
  pub inside : p.1 < length holes
  pub near : (d : Drilled) → are_clear gap (get_or holes p.0 d).hole (get_or holes p.1 d).hole ≡ false

-- no hole of the spots exceeds these limits
abbrev pub AreSpotsWithin : Limits → List Spot → Type 0
AreSpotsWithin limits spots = (i : ℕ) → i < length spots → IsWithinLimits limits (spot_at spots i).hole

-- the places of two spots at indices of a list, which differ, with holes that are not clear
pub record AreClashing (gap : ℕ) (spots : List Spot) (i j : ℕ) (p : ℕ × ℕ) : Type 0 where
  pub inside_i : i < length spots
  pub inside_j : j < length spots
  pub differ : ¬ ((spot_at spots i).place ≡ (spot_at spots j).place)
  pub near : are_clear gap (spot_at spots i).hole (spot_at spots j).hole ≡ false
  pub pair : in_order (spot_at spots i).place (spot_at spots j).place ≡ p

-- only pairs of places with holes that are not clear were added, and none was lost
pub record AddsClashes (gap : ℕ) (spots : List Spot) (before after : List (ℕ × ℕ)) : Type 0 where
  pub kept : (p : ℕ × ℕ) → Contains before p → Contains after p
  pub sound : (p : ℕ × ℕ) → Contains after p → Contains before p ⊎ ((i : ℕ) × (j : ℕ) × AreClashing gap spots i j p)

-- the list has the places of two spots, where these differ and their holes are not clear
pub record ListsClash (gap : ℕ) (spots : List Spot) (i j : ℕ) (pairs : List (ℕ × ℕ)) : Type 0 where
  pub there : ¬ ((spot_at spots j).place ≡ (spot_at spots i).place) → are_clear gap (spot_at spots j).hole (spot_at spots i).hole ≡ false → Contains pairs (in_order (spot_at spots j).place (spot_at spots i).place)

-- the list has the pairs of a spot with all spots whose holes are no larger and not clear of it
abbrev pub ListsClashes : ℕ → List Spot → ℕ → List (ℕ × ℕ) → Type 0
ListsClashes gap spots i pairs = (j : ℕ) → j < length spots → size_of (spot_at spots j).hole ≤ size_of (spot_at spots i).hole → ListsClash gap spots i j pairs

-- the order of pairs: by the first place, and then by the second
abbrev pub IsPairBefore : ℕ × ℕ → ℕ × ℕ → Type 0
IsPairBefore p q = (p.0 < q.0) ⊎ ((p.0 ≡ q.0) × (p.1 < q.1))
