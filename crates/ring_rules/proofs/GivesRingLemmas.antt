-- Whether a pad gives a hole its ring, by its parts.
use Rattle.ring_rules.proofs.Common.{◌≡◌, ℕ, ◌+◌, Bool, true, false, List, [], ◌∷◌, refl, ap, ◌&&◌, ◌||◌, not, list_any, GridPoint, GridHole, Profile, covers_hole, is_refused_slot, lacks_ring, gives_ring}

middle_of : (a b c : Bool) → (a && (b && c)) ≡ true → b ≡ true
middle_of true true c e = refl
middle_of true false c e = absurd cc
middle_of false b c e = absurd cc

none_without : (a b c : Bool) → b ≡ false → (a && (b && c)) ≡ false
none_without true b c e = ap (λ (x : Bool). x && c) e
none_without false b c e = refl

none_passes_false : {X : Type 0} (xs : List X) → list_any (λ (x : X). false) xs ≡ false
none_passes_false [] = refl
none_passes_false (x ∷ xs) = none_passes_false xs

-- a test with a further condition that fails passes for none of the elements
any_guarded : {X : Type 0} (b : Bool) (test : X → Bool) (xs : List X) → not (list_any (λ (x : X). not b && test x) xs) ≡ (b || not (list_any test xs))
any_guarded true test xs = ap not (none_passes_false xs)
any_guarded false test xs = refl

module _ {S : Type 0} (covers : S → GridPoint → ℕ → Bool) (profile : Profile) (ring : ℕ) (h : GridHole) where
  -- a pad that gives a hole its ring covers the hole's first end
  pub given_from : (pad : S) → gives_ring covers profile ring h pad ≡ true → covers pad h.from (h.radius + ring) ≡ true
  unfolding gives_ring
  given_from pad e = middle_of (not (is_refused_slot profile h)) (covers pad h.from (h.radius + ring)) (covers pad h.to (h.radius + ring)) e

  pub gives_none : (pad : S) → covers pad h.from (h.radius + ring) ≡ false → gives_ring covers profile ring h pad ≡ false
  unfolding gives_ring
  gives_none pad e = none_without (not (is_refused_slot profile h)) (covers pad h.from (h.radius + ring)) (covers pad h.to (h.radius + ring)) e

  -- a hole lacks its ring where none of the pads gives it
  pub given_by_none : (pads : List S) → not (list_any (gives_ring covers profile ring h) pads) ≡ lacks_ring covers profile ring pads h
  unfolding gives_ring
  given_by_none pads = any_guarded (is_refused_slot profile h) (covers_hole covers ring h) pads
