-- 1, 2 and 5 times powers of ten.
use Rattle.drawing.proofs.Common.{◌≡◌, ◌≤◌, ◌<◌, ◌*◌, ◌^◌, ◌⊎◌, inl, inr, ℕ, suc, arith, refl, sym, subst, ap, IsBar, IsRound}
use Rattle.std.proofs.lemmas.Bool.{cases_lt}
use Rattle.std.proofs.Math.Nat.{pow-le-pow_right}

-- ten times a power of ten is at most a greater one
tens : (j k : ℕ) → j < k → 10 * 10 ^ j ≤ 10 ^ k
tens j k lt = let h : 10 ^ suc j ≤ 10 ^ k = pow-le-pow_right {n = 10} (omega arith) {i = suc j} {j = k} (omega arith) in omega arith

-- once, twice and five times a number
abbrev Few : ℕ → ℕ → Type 0
Few n power = (n ≡ power) ⊎ ((n ≡ 2 * power) ⊎ (n ≡ 5 * power))

too_long : (width n more power : ℕ) → width < 40 * power → Few n more → 10 * power ≤ more → 4 * n ≤ width → ⊥
too_long width n more power least (inl e) le short = omega arith
too_long width n more power least (inr (inl e)) le short = omega arith
too_long width n more power least (inr (inr e)) le short = omega arith

shorter : (n less power : ℕ) → Few n less → 10 * less ≤ power → n ≤ power
shorter n less power (inl e) le = omega arith
shorter n less power (inr (inl e)) le = omega arith
shorter n less power (inr (inr e)) le = omega arith

at_power : (n same power : ℕ) → same ≡ power → Few n same → (n ≤ power) ⊎ ((n ≡ 2 * power) ⊎ (n ≡ 5 * power))
at_power n same power is (inl e) = inl (omega arith)
at_power n same power is (inr (inl e)) = inr (inl (omega arith))
at_power n same power is (inr (inr e)) = inr (inr (omega arith))

module _ (width k : ℕ) (least : width < 40 * 10 ^ k) where
  -- a round length of at most a quarter of the width
  within : (n : ℕ) → IsRound n → 4 * n ≤ width → (n ≤ 10 ^ k) ⊎ ((n ≡ 2 * 10 ^ k) ⊎ (n ≡ 5 * 10 ^ k))
  within n round short = elim (cases_lt k round.0) [
    | inl more ↦ absurd (too_long width n (10 ^ round.0) (10 ^ k) least round.1 (tens k round.0 more) short)
    | inr rest ↦ elim (cases_lt round.0 k) [
      | inl less ↦ inl (shorter n (10 ^ round.0) (10 ^ k) round.1 (tens round.0 k less))
      | inr other ↦ at_power n (10 ^ round.0) (10 ^ k) (ap (λ (j : ℕ). 10 ^ j) (let e : round.0 ≡ k = omega arith in e)) round.1
    ]
  ]

  at_most_five : (n power : ℕ) → (n ≤ power) ⊎ ((n ≡ 2 * power) ⊎ (n ≡ 5 * power)) → n ≤ 5 * power
  at_most_five n power (inl e) = omega arith
  at_most_five n power (inr (inl e)) = omega arith
  at_most_five n power (inr (inr e)) = omega arith

  at_most_two : (n power : ℕ) → width < 20 * power → 4 * n ≤ width → (n ≤ power) ⊎ ((n ≡ 2 * power) ⊎ (n ≡ 5 * power)) → n ≤ 2 * power
  at_most_two n power less short (inl e) = omega arith
  at_most_two n power less short (inr (inl e)) = omega arith
  at_most_two n power less short (inr (inr e)) = omega arith

  at_most_one : (n power : ℕ) → width < 8 * power → 4 * n ≤ width → (n ≤ power) ⊎ ((n ≡ 2 * power) ⊎ (n ≡ 5 * power)) → n ≤ power
  at_most_one n power less short (inl e) = e
  at_most_one n power less short (inr (inl e)) = omega arith
  at_most_one n power less short (inr (inr e)) = omega arith

  pub bar_of_five : (bar : ℕ) → bar ≡ 10 ^ k → 4 * (5 * bar) ≤ width → IsBar width (5 * bar)
  bar_of_five bar is fits = subst (λ (m : ℕ). IsBar width (5 * m)) (sym is) (record {
    round = (k, inr (inr refl));
    fits = subst (λ (m : ℕ). 4 * (5 * m) ≤ width) is fits;
    greatest = λ n round short. at_most_five n (10 ^ k) (within n round short);
  })

  pub bar_of_two : (bar : ℕ) → bar ≡ 10 ^ k → width < 20 * bar → 4 * (2 * bar) ≤ width → IsBar width (2 * bar)
  bar_of_two bar is less fits = subst (λ (m : ℕ). IsBar width (2 * m)) (sym is) (record {
    round = (k, inr (inl refl));
    fits = subst (λ (m : ℕ). 4 * (2 * m) ≤ width) is fits;
    greatest = λ n round short. at_most_two n (10 ^ k) (subst (λ (m : ℕ). width < 20 * m) is less) short (within n round short);
  })

  pub bar_of_one : (bar : ℕ) → bar ≡ 10 ^ k → width < 8 * bar → 4 * bar ≤ width → IsBar width bar
  bar_of_one bar is less fits = subst (IsBar width) (sym is) (record {
    round = (k, inl refl);
    fits = subst (λ (m : ℕ). 4 * m ≤ width) is fits;
    greatest = λ n round short. at_most_one n (10 ^ k) (subst (λ (m : ℕ). width < 8 * m) is less) short (within n round short);
  })
