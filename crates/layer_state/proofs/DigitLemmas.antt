-- Numbers with many digits, and decimal places below a picometre.
use Rattle.layer_state.proofs.Common.{◌≡◌, ℕ, ◌+◌, ◌-◌, ◌*◌, ◌/◌, ◌^◌, ◌≤◌, ◌<◌, true, false, nat_le, arith, ◌∙◌, ap, sym, subst, inl, inr, lit<, cases_lt}
use Rattle.std.proofs.Math.Nat.{pow-le-pow_right, le-div_iff_mul-le}
use Rattle.std.proofs.lemmas.Nat.{pow-add, div_below}
use Rattle.std.proofs.lemmas.Bool.Decides.{nat_tests}

pub test_yes : (a b : ℕ) → a ≤ b → nat_le a b ≡ true
test_yes a b h = grind (arith, nat_tests)

pub test_no : (a b : ℕ) → b < a → nat_le a b ≡ false
test_no a b h = grind (arith, nat_tests)

-- a number with more than 12 digits, by its quotient
pub more_digits : (n d : ℕ) → 12 ≤ d → nat_le (10 ^ (d - 12)) (n / 10 ^ 12) ≡ nat_le (10 ^ d) n
more_digits n d h =
    let whole : (d - 12) + 12 ≡ d = omega arith in
    let split : 10 ^ d ≡ 10 ^ (d - 12) * 10 ^ 12 = ap (λ e. 10 ^ e) (sym whole) ∙ pow-add 10 (d - 12) 12 in
    elim (cases_lt (n / 10 ^ 12) (10 ^ (d - 12))) [
      | inl less ↦ test_no _ _ less ∙ sym (test_no _ _ (elim (cases_lt n (10 ^ d)) [
        | inl below ↦ below
        | inr above ↦ absurd (omega (arith, less, (le-div_iff_mul-le {k = 10 ^ 12} {x = 10 ^ (d - 12)} {y = n} (lit< tt)).1 (subst (λ m. m ≤ n) split above)))
      ]))
      | inr more ↦ test_yes _ _ more ∙ sym (test_yes _ _ (subst (λ m. m ≤ n) (sym split) ((le-div_iff_mul-le {k = 10 ^ 12} {x = 10 ^ (d - 12)} {y = n} (lit< tt)).0 more)))
    ]

-- no number of 64 bits has more than twenty digits
pub no_more_digits : (n d : ℕ) → n < 2 ^ 64 → 20 ≤ d → nat_le (10 ^ d) n ≡ false
no_more_digits n d h k =
    let large : 10 ^ 20 ≤ 10 ^ d = pow-le-pow_right {n = 10} (lit< tt) k in
    test_no _ _ (omega (arith, large))

-- below the last place that is looked up a step has no whole picometre
pub no_finer : (n e d : ℕ) → n < 10 ^ e → e ≤ d → n / 10 ^ d ≡ 0
no_finer n e d short k =
    let large : 10 ^ e ≤ 10 ^ d = pow-le-pow_right {n = 10} (lit< tt) k in
    let below : n / 10 ^ d < 1 = div_below n (10 ^ d) 1 (omega (arith, large, short)) (omega (arith, large, short)) in
    omega (arith, below)
