-- The decimals of a drill line lie in the range of their type.
use Rattle.ringcheck_files.proofs.Common.{◌≡◌, ℕ, ◌+◌, ◌-◌, ◌*◌, ◌^◌, ◌<◌, ◌≤◌, zero, suc, Bool, true, false, cond, not, ◌&&◌, eqb, leb, ltb, List, [], ◌∷◌, length, take, ℤ, pos, unsigned_abs, Ok, Err, refl, sym, ap, ◌∙◌, arith, neg_ℤ, list_all, AllByRecursion, ltb-false, leb-true, eqb-true, length-take, BadNumber, NoZeros, TooManyDigits, TooFine, TooFar, ◌>>=◌, All, All-from_recursion, All-take, Zeros, Leading, Trailing, Full, bind_ok, both_true, AreDigitCounts, IsDec}
use Rattle.grid_units.specs.Numbers.{is_digit, is_digits, value, without_sign, is_negative, signed_value, to_units, whole, fraction, is_decimal, fits_eight_decimals, value_without_point, parse_decimal, zeros_to_fill, zero_filled, parse_zero_filled}
use Rattle.grid_units.proofs.DigitLemmas.{to_units_is, filled_lt}
use Rattle.grid_units.proofs.ZeroFillingLemmas.{filled_is, filled_bound, scaled_is, scaled_bound, wide}

all_digits_are : (ds : List ℕ) → list_all is_digit ds ≡ true → AllByRecursion (λ b. is_digit b ≡ true) ds
all_digits_are [] h = tt
all_digits_are (d ∷ ds) h = let k = both_true (is_digit d) (list_all is_digit ds) h in (k.0, all_digits_are ds k.1)

are_digits : (ds : List ℕ) → list_all is_digit ds ≡ true → All (λ b. is_digit b ≡ true) ds
are_digits ds h = All-from_recursion (λ b. is_digit b ≡ true) ds (all_digits_are ds h)

abs_neg : (n : ℕ) → unsigned_abs (neg_ℤ (pos n)) ≡ n
abs_neg zero = refl
abs_neg (suc n) = refl

abs_signed : (text : List ℕ) (n : ℕ) → unsigned_abs (signed_value text n) ≡ n
abs_signed text n = by (is_negative text)
  where
    by : (t : Bool) → unsigned_abs (cond t (neg_ℤ (pos n)) (pos n)) ≡ n
    by true = abs_neg n
    by false = refl

-- a decimal that is read
pub dec_small : (text : List ℕ) (v : ℤ) → parse_decimal text ≡ Ok v → IsDec v
unfolding parse_decimal
dec_small text v e = by (is_decimal text) (fits_eight_decimals (fraction text)) (ltb 999999 (value (whole text))) refl refl refl e
  where
    by : (d c l : Bool) → is_decimal text ≡ d → fits_eight_decimals (fraction text) ≡ c → ltb 999999 (value (whole text)) ≡ l
        → cond d (cond c (cond l (Err TooFar) (Ok (signed_value text (to_units (value_without_point text) (length (fraction text)))))) (Err TooFine)) (Err BadNumber) ≡ Ok v → IsDec v
    by true true false h c l k =
        let same : signed_value text (to_units (value_without_point text) (length (fraction text))) ≡ v = cc in
        let first : List ℕ = take 8 (fraction text) in
        let digits = both_true (list_all is_digit (whole text)) (list_all is_digit (fraction text)) (both_true (list_all is_digit (whole text) && list_all is_digit (fraction text)) (not (eqb (length (whole text) + length (fraction text)) 0)) h).0 in
        let behind : All (λ b. is_digit b ≡ true) first = All-take (λ b. is_digit b ≡ true) 8 (fraction text) (are_digits (fraction text) digits.1) in
        let short : length first ≤ 8 = omega (arith, length-take 8 (fraction text)) in
        let small : value first * 10 ^ (8 - length first) < 10 ^ 8 = filled_lt first behind short in
        let large : value (whole text) ≤ 999999 = ltb-false 999999 (value (whole text)) l in
        let abs : unsigned_abs v ≡ value (whole text) * 10 ^ 8 + value first * 10 ^ (8 - length first) = ap unsigned_abs (sym same) ∙ (abs_signed text (to_units (value_without_point text) (length (fraction text))) ∙ to_units_is (whole text) (fraction text) c) in
        omega (arith, abs, small, large)
    by true true true h c l k = absurd cc
    by true false l h c m k = absurd cc
    by false c l h d m k = absurd cc

missing_fits : (zeros : Zeros) (places n k : ℕ) → zeros_to_fill zeros places n ≡ Ok k → n + k ≤ places
missing_fits Leading places n k e = by (leb n places) refl e
  where
    by : (t : Bool) → leb n places ≡ t → cond t (Ok (places - n)) (Err TooManyDigits) ≡ Ok k → n + k ≤ places
    by true h f = let same : places - n ≡ k = cc in omega (arith, same, leb-true n places h)
    by false h f = absurd cc
missing_fits Trailing places n k e = by (leb n places) refl e
  where
    by : (t : Bool) → leb n places ≡ t → cond t (Ok 0) (Err TooManyDigits) ≡ Ok k → n + k ≤ places
    by true h f = let same : 0 ≡ k = cc in omega (arith, same, leb-true n places h)
    by false h f = absurd cc
missing_fits Full places n k e = by (eqb n places) refl e
  where
    by : (t : Bool) → eqb n places ≡ t → cond t (Ok 0) (Err NoZeros) ≡ Ok k → n + k ≤ places
    by true h f = let same : 0 ≡ k = cc in omega (arith, same, eqb-true n places h)
    by false h f = absurd cc

-- a coordinate without a point that is read
pub zeros_small : (text : List ℕ) (i d : ℕ) (zeros : Zeros) (v : ℤ) → AreDigitCounts i d → parse_zero_filled text i d zeros ≡ Ok v → IsDec v
unfolding parse_zero_filled
zeros_small text i d zeros v s e = by (is_digits (without_sign text)) refl e
  where
    by : (t : Bool) → is_digits (without_sign text) ≡ t → cond t (zeros_to_fill zeros (i + d) (length (without_sign text)) >>= λ k. Ok (signed_value text (to_units (zero_filled (without_sign text) k) d))) (Err BadNumber) ≡ Ok v → IsDec v
    by true h f =
        let b = bind_ok (zeros_to_fill zeros (i + d) (length (without_sign text))) (λ k. Ok (signed_value text (to_units (zero_filled (without_sign text) k) d))) v f in
        let same : signed_value text (to_units (zero_filled (without_sign text) b.0) d) ≡ v = let g = b.2 in cc in
        let digits = are_digits (without_sign text) (both_true (not (eqb (length (without_sign text)) 0)) (list_all is_digit (without_sign text)) h).1 in
        let n = zero_filled (without_sign text) b.0 in
        let fits : length (without_sign text) + b.0 ≤ i + d = missing_fits zeros (i + d) (length (without_sign text)) b.0 b.1 in
        let lt : n < 10 ^ (i + d) = omega (arith, filled_is (without_sign text) b.0, filled_bound (without_sign text) b.0 digits, wide (length (without_sign text) + b.0) (i + d) fits) in
        let bound : n * 10 ^ (8 - d) < 10 ^ 14 = scaled_bound n i d s.1 (omega (arith, s.3)) lt in
        let abs : unsigned_abs v ≡ n * 10 ^ (8 - d) = ap unsigned_abs (sym same) ∙ (abs_signed text (to_units n d) ∙ sym (scaled_is n d (omega (arith, s.3)))) in
        omega (arith, abs, bound)
    by false h f = absurd cc
