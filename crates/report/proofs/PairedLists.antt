-- Two lists where each element of one belongs to the element of the other at its place.
use Rattle.report.proofs.Common.{◌≡◌, ℕ, ◌+◌, ◌<◌, ◌≤◌, ◌++◌, ◌∷◌, [], ◌⊎◌, inl, inr, List, length, take, get_or, sym, subst, ap, ◌∙◌, arith, cases_lt, get_or-take, get_or_append_left, get_or_default, length-append, length-take-le, take_all, get_or-append_seam}

module _ {X Y : Type 0} (R : X → Y → Type 0) where
  pub record PairedLists (xs : List X) (ys : List Y) : Type 0 where
    pub size : length ys ≡ length xs
    pub each : (k : ℕ) (x : X) (y : Y) → k < length xs → R (get_or xs k x) (get_or ys k y)

module _ {X Y : Type 0} (R : X → Y → Type 0) (xs : List X) where
  pub paired_all : (i : ℕ) (ys : List Y) → length xs ≤ i → PairedLists R (take i xs) ys → PairedLists R xs ys
  paired_all i ys past is = subst (λ (zs : List X). PairedLists R zs ys) (take_all i xs past) is

  module _ (i : ℕ) (one : X) (inside : i < length xs) (is : one ≡ get_or xs i one) (old new : List Y) (last : Y) (more : new ≡ old ++ last ∷ []) (fits : R one last) (was : PairedLists R (take i xs) old) where
    few : length (take i xs) ≡ i
    few = length-take-le i xs (omega (arith, inside))

    grown : length (take (i + 1) xs) ≡ i + 1
    grown = length-take-le (i + 1) xs (omega (arith, inside))

    count : length old ≡ i
    count = was.size ∙ few

    by : (k : ℕ) (x : X) (y : Y) → k < i + 1 → (k < i) ⊎ (i ≤ k) → R (get_or xs k x) (get_or new k y)
    by k x y less (inl low) =
        subst (λ (z : X). R z (get_or new k y)) (get_or-take i xs k x low)
        (subst (λ (z : Y). R (get_or (take i xs) k x) z) (sym (ap (λ (zs : List Y). get_or zs k y) more ∙ get_or_append_left old (last ∷ []) y k (omega (arith, low, count)))) (was.each k x y (omega (arith, low, few))))
    by k x y less (inr high) =
        let here : i ≡ k = omega (arith, less, high) in
        let end : length old ≡ k = omega (arith, count, here) in
        let own : one ≡ get_or xs k x = is ∙ (get_or_default xs i one x inside ∙ ap (λ (n : ℕ). get_or xs n x) here) in
        let its : last ≡ get_or new k y = sym (get_or-append_seam old last [] y) ∙ (ap (λ (n : ℕ). get_or (old ++ last ∷ []) n y) end ∙ ap (λ (zs : List Y). get_or zs k y) (sym more)) in
        subst (λ (z : X). R z (get_or new k y)) own (subst (λ (z : Y). R one z) its fits)

    pub paired_more : PairedLists R (take (i + 1) xs) new
    paired_more = record {
      size = ap length more ∙ (length-append old (last ∷ []) ∙ (ap (λ (n : ℕ). n + 1) count ∙ sym grown));
      each = λ k x y less. (
          let low : k < i + 1 = omega (arith, less, grown) in
          subst (λ (z : X). R z (get_or new k y)) (sym (get_or-take (i + 1) xs k x low)) (by k x y low (cases_lt k i)));
    }
