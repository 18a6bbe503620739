-- A list whose elements are settled one after the other.
use Rattle.manifest.proofs.Common.{◌≡◌, ◌∙◌, ◌<◌, ◌≤◌, ◌+◌, ◌++◌, ℕ, zero, suc, List, [], ◌∷◌, length, map, take, drop, get_or, set, add-one, arith, refl, sym, ap, append-nil, take_all}

module _ {A : Type 0} (f : A → A) where
  set_at : (xs : List A) (i : ℕ) (d : A) → i < length xs → set (map f (take i xs) ++ drop i xs) i (f (get_or (map f (take i xs) ++ drop i xs) i d)) ≡ map f (take (suc i) xs) ++ drop (suc i) xs
  set_at [] i d lt = absurd (omega (arith, lt))
  set_at (x ∷ xs) zero d lt = refl
  set_at (x ∷ xs) (suc i) d lt = ap (λ t. f x ∷ t) (set_at xs i d (omega (arith, lt)))

  -- one more element
  pub one_more : (xs items : List A) (i : ℕ) (new d : A) → i < length xs → items ≡ map f (take i xs) ++ drop i xs → new ≡ f (get_or items i d) → set items i new ≡ map f (take (i + 1) xs) ++ drop (i + 1) xs
  one_more xs items i new d lt was is =
      ap (set items i) is ∙ ap (λ ys. set ys i (f (get_or ys i d))) was ∙ set_at xs i d lt ∙ ap (λ n. map f (take n xs) ++ drop n xs) (sym (add-one i))

  none_left : (xs : List A) (i : ℕ) → length xs ≤ i → drop i xs ≡ []
  none_left [] zero le = refl
  none_left [] (suc i) le = refl
  none_left (x ∷ xs) zero le = absurd (omega (arith, le))
  none_left (x ∷ xs) (suc i) le = none_left xs i (omega (arith, le))

  -- all of them
  pub all_done : (xs items : List A) (i : ℕ) → length xs ≤ i → items ≡ map f (take i xs) ++ drop i xs → items ≡ map f xs
  all_done xs items i le was =
      was ∙ (λ k. map f (take_all i xs le k) ++ none_left xs i le k) ∙ append-nil (map f xs)

  -- what is written back
  pub written : (xs items : List A) (len : ℕ) → length items ≡ length xs → length xs ≡ len → take len (items ++ drop (length items) xs) ≡ items
  written xs items len same is =
      ap (λ ys. take len (items ++ ys)) (none_left xs (length items) (omega (arith, same))) ∙ ap (take len) (append-nil items) ∙ take_all len items (omega (arith, same, is))
