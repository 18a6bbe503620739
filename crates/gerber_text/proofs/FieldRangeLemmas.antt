-- The ranges of numbers that are read.
use Rattle.gerber_text.proofs.Common.{◌≡◌, ℕ, zero, suc, ◌+◌, ◌-◌, ◌*◌, ◌<◌, ◌≤◌, ◌^◌, Bool, true, false, cond, not, ◌&&◌, eqb, leb, ltb, List, [], ◌∷◌, length, take, drop, ℤ, pos, Result, Ok, Err, refl, sym, ap, ◌∙◌, arith, unsigned_abs, neg_ℤ, decimal, list_all, prefix_len, length-take, All-from_recursion, length-decimal-le, leb-true, le-leb, lt-ltb, ltb-false, Reason, BadNumber, TooManyDigits, TooFine, TooFar, is_digit, is_digits, value, without_sign, is_negative, signed_value, to_units, whole, fraction, is_decimal, fits_eight_decimals, value_without_point, parse_decimal, max_units, significant_digits, int_of, nat_of, is_nat, is_int, is_dec, and_true, both_true}
use Rattle.std.proofs.Math.Nat.{pow-le-pow_right}
use Rattle.grid_units.proofs.DigitLemmas.{value_lt, to_units_is, filled_lt, each_digit}
use Rattle.gerber_commands.proofs.NumberLemmas.{value_significant}
use Rattle.gerber_commands.proofs.RowLemmas.{guarded, refused, allowed}

-- ---- what a test let through

-- ---- parts of lists that pass a test

all_drop : {A : Type 0} (p : A → Bool) (n : ℕ) (xs : List A) → list_all p xs ≡ true → list_all p (drop n xs) ≡ true
all_drop p zero xs h = h
all_drop p (suc n) [] h = refl
all_drop p (suc n) (x ∷ xs) h = all_drop p n xs (both_true (p x) (list_all p xs) h).1

all_take : {A : Type 0} (p : A → Bool) (n : ℕ) (xs : List A) → list_all p xs ≡ true → list_all p (take n xs) ≡ true
all_take p zero xs h = refl
all_take p (suc n) [] h = refl
all_take p (suc n) (x ∷ xs) h = let k = both_true (p x) (list_all p xs) h in and_true (p x) (list_all p (take n xs)) k.0 (all_take p n xs k.1)

-- ---- numbers without a sign

-- what a digit run of a number says
pub record WasNat (digits : List ℕ) (n : ℕ) : Type 0 where
  pub range : is_nat n ≡ true
  pub short : length (decimal n) ≤ length digits

positive : (n : ℕ) → not (eqb n 0) ≡ true → 0 < n
positive zero h = absurd cc
positive (suc n) h = omega arith

pub was_nat : (digits : List ℕ) (n : ℕ) → nat_of digits ≡ Ok n → WasNat digits n
unfolding nat_of
was_nat digits n e =
    let g = guarded (is_digits digits && leb (value digits) 2147483647) (value digits) n BadNumber e in
    let k = both_true (is_digits digits) (leb (value digits) 2147483647) g.0 in
    let d = both_true (not (eqb (length digits) 0)) (list_all is_digit digits) k.0 in
    let le : value digits ≤ 2147483647 = leb-true (value digits) 2147483647 k.1 in
    let lt : value digits < 10 ^ length digits = value_lt digits (each_digit digits d.1) in
    let short : length (decimal (value digits)) ≤ length digits = length-decimal-le (length digits) (value digits) (positive (length digits) d.0) lt (omega (arith, le)) in
    record {
      range = ap is_nat (sym g.1) ∙ k.1;
      short = omega (arith, short, ap (λ m. length (decimal m)) g.1);
    }

-- ---- numbers with a sign

signed_abs : (t : Bool) (n : ℕ) → unsigned_abs (cond t (neg_ℤ (pos n)) (pos n)) ≡ n
signed_abs true zero = refl
signed_abs true (suc n) = refl
signed_abs false n = refl

pub was_int : (run : List ℕ) (z : ℤ) → int_of run ≡ Ok z → is_int z ≡ true
unfolding int_of
was_int run z e =
    let u = without_sign run in
    let a = allowed (is_digits u) (cond (ltb 12 (length (significant_digits u))) (Err TooManyDigits) (Ok (signed_value run (value u)))) z BadNumber e in
    let b = refused (ltb 12 (length (significant_digits u))) (Ok (signed_value run (value u))) z TooManyDigits a.1 in
    let same : signed_value run (value u) ≡ z = let o : Ok (signed_value run (value u)) ≡ Ok z = b.1 in cc in
    let few : length (significant_digits u) ≤ 12 = ltb-false 12 (length (significant_digits u)) b.0 in
    let d = both_true (not (eqb (length u) 0)) (list_all is_digit u) a.0 in
    let lt : value (significant_digits u) < 10 ^ length (significant_digits u) = value_lt (significant_digits u) (each_digit (significant_digits u) (all_drop is_digit (prefix_len (λ b. eqb b 48) u) u d.1)) in
    let le : 10 ^ length (significant_digits u) ≤ 10 ^ 12 = pow-le-pow_right {n = 10} (omega arith) {i = length (significant_digits u)} {j = 12} few in
    let abs : unsigned_abs z ≡ value u = ap unsigned_abs (sym same) ∙ signed_abs (is_negative run) (value u) in
    lt-ltb (unsigned_abs z) (10 ^ 12) (omega (arith, abs, value_significant u, lt, le))

-- ---- decimals

pub was_dec : (text : List ℕ) (v : ℤ) → parse_decimal text ≡ Ok v → is_dec v ≡ true
unfolding parse_decimal
was_dec text v e =
    let w = whole text in
    let f = fraction text in
    let m = to_units (value_without_point text) (length f) in
    let a = allowed (is_decimal text) (cond (fits_eight_decimals f) (cond (ltb 999999 (value w)) (Err TooFar) (Ok (signed_value text m))) (Err TooFine)) v BadNumber e in
    let b = allowed (fits_eight_decimals f) (cond (ltb 999999 (value w)) (Err TooFar) (Ok (signed_value text m))) v TooFine a.1 in
    let c = refused (ltb 999999 (value w)) (Ok (signed_value text m)) v TooFar b.1 in
    let same : signed_value text m ≡ v = let o : Ok (signed_value text m) ≡ Ok v = c.1 in cc in
    let low : value w ≤ 999999 = ltb-false 999999 (value w) c.0 in
    let digits = both_true (list_all is_digit w && list_all is_digit f) (not (eqb (length w + length f) 0)) a.0 in
    let fds = (both_true (list_all is_digit w) (list_all is_digit f) digits.0).1 in
    let t = take 8 f in
    let lt : value t * 10 ^ (8 - length t) < 10 ^ 8 = filled_lt t (All-from_recursion (λ b. is_digit b ≡ true) t (each_digit t (all_take is_digit 8 f fds))) (omega (arith, length-take 8 f)) in
    let is : m ≡ value w * 10 ^ 8 + value t * 10 ^ (8 - length t) = to_units_is w f b.0 in
    let scaled : value w * 10 ^ 8 ≤ 999999 * 10 ^ 8 = omega (arith, low) in
    let abs : unsigned_abs v ≡ m = ap unsigned_abs (sym same) ∙ signed_abs (is_negative text) m in
    le-leb (unsigned_abs v) max_units (omega (arith, abs, is, lt, scaled))
