-- The first byte that passes a test.
use Rattle.manifest.proofs.Common.{◌≡◌, ◌∙◌, ◌<◌, ◌≤◌, ◌+◌, ◌-◌, ℕ, Bool, true, false, List, [], length, drop, take, get_or, arith, sym, ap, before_first, after_first, position_or_len, take_all, drop_all, length-drop, position_or_len_is}

module _ (p : ℕ → Bool) (xs : List ℕ) where
  pub first_at : (i : ℕ) → i < length xs → ((k : ℕ) → k < i → p (get_or xs k 0) ≡ false) → p (get_or xs i 0) ≡ true → position_or_len p xs ≡ i
  first_at i lt miss hit = position_or_len_is p xs i 0 (omega arith) miss (λ _. hit)

  pub none_at : (i : ℕ) → i ≤ length xs → length xs ≤ i → ((k : ℕ) → k < i → p (get_or xs k 0) ≡ false) → position_or_len p xs ≡ length xs
  none_at i le ge miss = position_or_len_is p xs i 0 le miss (λ lt. absurd (omega arith)) ∙ (let e : i ≡ length xs = omega arith in e)

  pub before_at : (i : ℕ) → i < length xs → ((k : ℕ) → k < i → p (get_or xs k 0) ≡ false) → p (get_or xs i 0) ≡ true → take i xs ≡ before_first p xs
  before_at i lt miss hit = sym (ap (λ n. take n xs) (first_at i lt miss hit))

  pub from_at : (i : ℕ) → i < length xs → ((k : ℕ) → k < i → p (get_or xs k 0) ≡ false) → p (get_or xs i 0) ≡ true → drop i xs ≡ drop (position_or_len p xs) xs
  from_at i lt miss hit = sym (ap (λ n. drop n xs) (first_at i lt miss hit))

  pub after_at : (i : ℕ) → i < length xs → ((k : ℕ) → k < i → p (get_or xs k 0) ≡ false) → p (get_or xs i 0) ≡ true → take (length xs - (i + 1)) (drop (i + 1) xs) ≡ after_first p xs
  after_at i lt miss hit = take_all _ (drop (i + 1) xs) (omega (arith, length-drop (i + 1) xs)) ∙ sym (ap (λ n. drop (n + 1) xs) (first_at i lt miss hit))

  pub before_none : (i : ℕ) → i ≤ length xs → length xs ≤ i → ((k : ℕ) → k < i → p (get_or xs k 0) ≡ false) → xs ≡ before_first p xs
  before_none i le ge miss = sym (ap (λ n. take n xs) (none_at i le ge miss) ∙ take_all _ xs (omega arith))

  pub after_none : (i : ℕ) → i ≤ length xs → length xs ≤ i → ((k : ℕ) → k < i → p (get_or xs k 0) ≡ false) → [] ≡ after_first p xs
  after_none i le ge miss = sym (ap (λ n. drop (n + 1) xs) (none_at i le ge miss) ∙ drop_all _ xs (omega arith))

  pub from_none : (i : ℕ) → i ≤ length xs → length xs ≤ i → ((k : ℕ) → k < i → p (get_or xs k 0) ≡ false) → [] ≡ drop (position_or_len p xs) xs
  from_none i le ge miss = sym (ap (λ n. drop n xs) (none_at i le ge miss) ∙ drop_all _ xs (omega arith))
