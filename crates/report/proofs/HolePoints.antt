-- The points that lie in a hole.
use Rattle.report.proofs.Common.{◌≡◌, ◌∷◌, ℕ, Bool, true, false, cond, List, [], ap, subst, ◌∙◌, inl, inr, refl, arith, Contains, int_eq, and_parts, Decides-int_eq, All-weaker, GridHole, is_round, GridPoint, IsInSlot, IsNear, is_outline, rounded_covers, HolesHaveTheirPoints, hole_shape}
use Rattle.std.specs.Prelude.{◌↔◌, not}
use Rattle.pad_shapes.proofs.PartsLemmas.{points_are_covered}
use Rattle.ring_rules.proofs.SortedPairs.{contains_cases, contains_first}

-- the ends of a hole are one point, or the two of a line
pub outline_of : (h : GridHole) → is_outline (hole_shape h).first (hole_shape h).others ≡ true
outline_of h = by (is_round h) refl
  where
    by : (t : Bool) → is_round h ≡ t → is_outline h.from (cond t [] (h.to ∷ [])) ≡ true
    by true e = refl
    by false e = ap not e

-- a point near some points is near any points that hold these
near_among : (points others : List GridPoint) (radius : ℕ) → ((v : GridPoint) → Contains points v → Contains others v) → (p : GridPoint) → IsNear points radius p → IsNear others radius p
near_among points others radius among p is = record {
  parts = is.parts;
  of_points = All-weaker (λ w. Contains points w.point) (λ w. Contains others w.point) (λ w c. among w.point c) is.parts is.of_points;
  some = is.some;
  near = is.near;
}

-- the ends of a round hole are one point
same_ends : (h : GridHole) → is_round h ≡ true → h.from ≡ h.to
same_ends h e = by (and_parts (int_eq h.from.x h.to.x) (int_eq h.from.y h.to.y) e)
  where
    by : (int_eq h.from.x h.to.x ≡ true) × (int_eq h.from.y h.to.y ≡ true) → h.from ≡ h.to
    by parts = λ i. record { x = (Decides-int_eq h.from.x h.to.x).0 parts.0 i; y = (Decides-int_eq h.from.y h.to.y).0 parts.1 i }

-- both ends of a slot are its first one, where they are one point
at_first : (from to v : GridPoint) → from ≡ to → Contains (from ∷ to ∷ []) v → Contains (from ∷ []) v
at_first from to v same among = elim (contains_cases from (to ∷ []) v among) [
  | inl first ↦ subst (Contains (from ∷ [])) first (contains_first from [])
  | inr rest ↦ elim (contains_cases to [] v rest) [
    | inl second ↦ subst (Contains (from ∷ [])) (same ∙ second) (contains_first from [])
    | inr none ↦ absurd (let some = none.1 in omega (arith, some))
  ]
]

among_ends : (from to v : GridPoint) → Contains (from ∷ []) v → Contains (from ∷ to ∷ []) v
among_ends from to v among = elim (contains_cases from [] v among) [
  | inl first ↦ subst (Contains (from ∷ to ∷ [])) first (contains_first from (to ∷ []))
  | inr none ↦ absurd (let some = none.1 in omega (arith, some))
]

pub holes_have_their_points : HolesHaveTheirPoints
holes_have_their_points h p = by (is_round h) refl
  where
    by : (t : Bool) → is_round h ≡ t → IsInSlot h.from h.to h.radius p ↔ (rounded_covers (record { first = h.from; others = cond t [] (h.to ∷ []); radius = h.radius }) p 0 ≡ true)
    by true e = (let covered = points_are_covered (record { first = h.from; others = []; radius = h.radius }) refl p in
        let same = same_ends h e in (
          λ slot. covered.0 (near_among (h.from ∷ h.to ∷ []) (h.from ∷ []) h.radius (λ v. at_first h.from h.to v same) p slot),
          λ e. near_among (h.from ∷ []) (h.from ∷ h.to ∷ []) h.radius (λ v. among_ends h.from h.to v) p (covered.1 e),
        ))
    by false e = points_are_covered (record { first = h.from; others = h.to ∷ []; radius = h.radius }) (ap not e) p
