-- The first place at which a test passes, and a table of first places.
use Rattle.waivers.proofs.Common.{◌≡◌, ◌∙◌, ◌+◌, ◌++◌, ◌<◌, ℕ, List, [], ◌∷◌, Bool, true, false, cond, Option, Some, None, is_some, length, take, get_or, arith, refl, ap, sym, inl, inr, if◌then◌else◌, position_from, bytes_eq, length-take-le, take_more, bytes_eq-Decides, place_at, slice_cmp, option_or}
use Rattle.std.specs.Borrow.{Bor}
use Rattle.std.specs.BTreeMap as tree
use Rattle.std.specs.BTreeMap.{BTreeMap}
use Rattle.std.specs.Ordering.{nat_cmp}
use Rattle.std.proofs.lemmas.Bool.{cases_Bool}
use Rattle.std.proofs.lemmas.Map.Text.{btree_map_updates_str}

module _ {X : Type 0} (p : X → Bool) where
  -- the first place in a list with one more element
  more_from : (n : ℕ) (xs : List X) (x : X) → position_from p n (xs ++ x ∷ []) ≡ option_or (position_from p n xs) (if p x then Some (n + length xs) else None)
  more_from n [] x = let same : n + 0 ≡ n = omega arith in rw same refl
  more_from n (y ∷ ys) x = by (p y) (more_from (n + 1) ys x)
    where
      by : (b : Bool) → position_from p (n + 1) (ys ++ x ∷ []) ≡ option_or (position_from p (n + 1) ys) (if p x then Some (n + 1 + length ys) else None)
          → cond b (Some n) (position_from p (n + 1) (ys ++ x ∷ [])) ≡ option_or (cond b (Some n) (position_from p (n + 1) ys)) (if p x then Some (n + length (y ∷ ys)) else None)
      by true e = refl
      by false e = let same : n + length (y ∷ ys) ≡ n + 1 + length ys = omega arith in rw same e

  length_taken : (xs : List X) (i : ℕ) → i < length xs → length (take i xs) ≡ i
  length_taken xs i lt = length-take-le i xs (omega arith)

  -- the first place among the elements so far, and one more
  pub first_more : (xs : List X) (i : ℕ) (x : X) → i < length xs → x ≡ get_or xs i x → position_from p 0 (take (i + 1) xs) ≡ option_or (position_from p 0 (take i xs)) (if p x then Some i else None)
  first_more xs i x lt is =
      let grown : take (i + 1) xs ≡ take i xs ++ x ∷ [] = take_more xs i x lt ∙ ap (λ y. take i xs ++ y ∷ []) (sym is) in
      let taken = length_taken xs i lt in
      let place : 0 + length (take i xs) ≡ i = omega (arith, taken) in
      ap (position_from p 0) grown ∙ (more_from 0 (take i xs) x ∙ ap (λ (n : ℕ). option_or (position_from p 0 (take i xs)) (if p x then Some n else None)) place)

-- a key without a place gets one
pub place_added : (found new : List ℕ → Option ℕ) (key : List ℕ) (place : ℕ) → is_some (found key) ≡ false → ((other : List ℕ) → new other ≡ cond (bytes_eq key other) (Some place) (found other))
    → (other : List ℕ) → new other ≡ option_or (found other) (if bytes_eq key other then Some place else None)
place_added found new key place none is other = elim (cases_Bool (bytes_eq key other)) [
  | inl t ↦ is other ∙ rw t (by_none (found other) (ap (λ k. is_some (found k)) (sym ((bytes_eq-Decides key other).0 t)) ∙ none))
  | inr f ↦ is other ∙ rw f (by_any (found other))
]
  where
    by_none : (o : Option ℕ) → is_some o ≡ false → Some place ≡ option_or o (Some place)
    by_none None e = refl
    by_none (Some n) e = absurd cc

    by_any : (o : Option ℕ) → o ≡ option_or o None
    by_any None = refl
    by_any (Some n) = refl

-- the places in a table after a key got one
pub first_place_step : (bytes : List ℕ) (place : ℕ) (m n : BTreeMap (Bor (List ℕ)) ℕ)
    → tree.UpdatesBy (λ x y. slice_cmp nat_cmp x.now y.now) (λ k. slice_cmp nat_cmp bytes k.now) m n (Some place) → (other : List ℕ) → place_at n other ≡ cond (bytes_eq bytes other) (Some place) (place_at m other)
first_place_step bytes place m n u other = btree_map_updates_str bytes m n (Some place) u other
