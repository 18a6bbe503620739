-- Cutting a line: into a run of bytes and what follows it, or after a beginning.
use Rattle.drill_lines.proofs.Common.{◌≡◌, ℕ, suc, ◌+◌, Bool, true, false, cond, not, ◌||◌, ◌&&◌, eqb, ltb, List, [], ◌∷◌, ◌++◌, length, take, drop, ℤ, None, Some, Result, Ok, Err, refl, sym, ap, ◌∙◌, arith, append_assoc, take_while, bytes_eq, list_all, list_any, prefix_len, before_first, after_first, nat_tests, Reason, BadNumber, Zeros, ◌>>=◌, strip_prefix, is_digit, is_digits, is_number_char, value, Settings, is_point, format_in, zeros_in, and_true, both_true, list_all_weaker, digit_number}
use Rattle.std.proofs.lemmas.List.{take-append-drop}
use Rattle.std.proofs.lemmas.List.Sums.{take_while-cons}
use Rattle.std.proofs.lemmas.Slice.Eq.{bytes_eq-Decides}
use Rattle.grid_units.specs.declared.fault.Reason.TheVariants.{TooFar, TooFine}
use Rattle.grid_units.specs.Numbers.{without_sign, signed_value, to_units, whole, fraction, is_decimal, fits_eight_decimals, value_without_point, parse_decimal, zeros_to_fill, zero_filled, parse_zero_filled}
use Rattle.drill_lines.specs.HoleLines.{coordinate_of}

-- bytes that a test finds equal
pub bytes_are : (xs ys : List ℕ) → bytes_eq xs ys ≡ true → xs ≡ ys
bytes_are xs ys = (bytes_eq-Decides xs ys).0

-- a line that begins so is this beginning and what follows it
pub begins_so : (prefix line rest : List ℕ) → strip_prefix prefix line ≡ Some rest → line ≡ prefix ++ rest
begins_so prefix line rest h = by (bytes_eq (take (length prefix) line) prefix) refl h
  where
    by : (t : Bool) → bytes_eq (take (length prefix) line) prefix ≡ t → cond t (Some (drop (length prefix) line)) None ≡ Some rest → line ≡ prefix ++ rest
    by true e k =
        let same : drop (length prefix) line ≡ rest = cc in
        sym (take-append-drop (length prefix) line) ∙ (λ i. bytes_are (take (length prefix) line) prefix e i ++ same i)
    by false e k = absurd cc

pub nested : (a b c d e f : List ℕ) → a ++ b ++ c ++ d ++ e ++ f ≡ a ++ (b ++ (c ++ (d ++ (e ++ f))))
nested a b c d e f = simp append_assoc refl

-- ---- runs

pub run_and_rest : (p : ℕ → Bool) (xs : List ℕ) → take_while p xs ++ drop (prefix_len p xs) xs ≡ xs
run_and_rest p xs = take-append-drop (prefix_len p xs) xs

run_first : (p : ℕ → Bool) (x : ℕ) (ys : List ℕ) (t : Bool) → p x ≡ t → list_all p ys ≡ true → list_all p (cond t (x ∷ ys) []) ≡ true
run_first p x ys true e h = and_true (p x) (list_all p ys) e h
run_first p x ys false e h = refl

pub run_passes : (p : ℕ → Bool) (xs : List ℕ) → list_all p (take_while p xs) ≡ true
run_passes p [] = refl
run_passes p (x ∷ xs) = ap (list_all p) (take_while-cons p x xs) ∙ run_first p x (take_while p xs) (p x) refl (run_passes p xs)

rest_first : (p : ℕ → Bool) (x : ℕ) (xs : List ℕ) (t : Bool) → p x ≡ t → prefix_len p (drop (prefix_len p xs) xs) ≡ 0 → prefix_len p (drop (cond t (1 + prefix_len p xs) 0) (x ∷ xs)) ≡ 0
rest_first p x xs true e h = let next : 1 + prefix_len p xs ≡ suc (prefix_len p xs) = omega arith in ap (λ n. prefix_len p (drop n (x ∷ xs))) next ∙ h
rest_first p x xs false e h = ap (λ t. cond t (1 + prefix_len p xs) 0) e

-- what follows a run does not go on with it
pub rest_fails : (p : ℕ → Bool) (xs : List ℕ) → prefix_len p (drop (prefix_len p xs) xs) ≡ 0
rest_fails p [] = refl
rest_fails p (x ∷ xs) = rest_first p x xs (p x) refl (rest_fails p xs)

-- ---- before and after a byte

pub before_more : (p : ℕ → Bool) (x : ℕ) (xs : List ℕ) → p x ≡ false → before_first p (x ∷ xs) ≡ x ∷ before_first p xs
before_more p x xs e = take_while-cons (λ b. not (p b)) x xs ∙ ap (λ t. cond (not t) (x ∷ before_first p xs) []) e

pub after_more : (p : ℕ → Bool) (x : ℕ) (xs : List ℕ) → p x ≡ false → after_first p (x ∷ xs) ≡ after_first p xs
after_more p x xs e =
    let n = prefix_len (λ b. not (p b)) xs in
    let next : 1 + n + 1 ≡ suc (n + 1) = omega arith in
    ap (λ t. drop (cond (not t) (1 + n) 0 + 1) (x ∷ xs)) e ∙ ap (λ k. drop k (x ∷ xs)) next

pub before_here : (p : ℕ → Bool) (x : ℕ) (xs : List ℕ) → p x ≡ true → before_first p (x ∷ xs) ≡ []
before_here p x xs e = ap (λ t. take (cond (not t) (1 + prefix_len (λ b. not (p b)) xs) 0) (x ∷ xs)) e

pub after_here : (p : ℕ → Bool) (x : ℕ) (xs : List ℕ) → p x ≡ true → after_first p (x ∷ xs) ≡ xs
after_here p x xs e = ap (λ t. drop (cond (not t) (1 + prefix_len (λ b. not (p b)) xs) 0 + 1) (x ∷ xs)) e

-- ---- the runs of numbers

sign_number : (b : ℕ) → (eqb b 43 || eqb b 45) ≡ true → is_number_char b ≡ true
sign_number b h = grind (arith, nat_tests)

sign_first : (b : ℕ) (bs : List ℕ) (t : Bool) → (eqb b 43 || eqb b 45) ≡ t → list_all is_number_char (cond t bs (b ∷ bs)) ≡ true → list_all is_number_char (b ∷ bs) ≡ true
sign_first b bs true e h = and_true (is_number_char b) (list_all is_number_char bs) (sign_number b e) h
sign_first b bs false e h = h

with_sign : (text : List ℕ) → list_all is_number_char (without_sign text) ≡ true → list_all is_number_char text ≡ true
with_sign [] h = refl
with_sign (b ∷ bs) h = sign_first b bs (eqb b 43 || eqb b 45) refl h

digits_numbers : (ds : List ℕ) → list_all is_digit ds ≡ true → list_all is_number_char ds ≡ true
digits_numbers ds h = list_all_weaker is_digit is_number_char digit_number ds h

point_number : (b : ℕ) → eqb b 46 ≡ true → is_number_char b ≡ true
point_number b h = grind (arith, nat_tests)

part_first : (x : ℕ) (xs : List ℕ) (t : Bool) → eqb x 46 ≡ t → (list_all is_digit (before_first (λ b. eqb b 46) xs) ≡ true → list_all is_digit (after_first (λ b. eqb b 46) xs) ≡ true → list_all is_number_char xs ≡ true)
    → list_all is_digit (before_first (λ b. eqb b 46) (x ∷ xs)) ≡ true → list_all is_digit (after_first (λ b. eqb b 46) (x ∷ xs)) ≡ true → list_all is_number_char (x ∷ xs) ≡ true
part_first x xs true e rest h k = and_true (is_number_char x) (list_all is_number_char xs) (point_number x e) (digits_numbers xs (sym (ap (list_all is_digit) (after_here (λ b. eqb b 46) x xs e)) ∙ k))
part_first x xs false e rest h k =
    let b = both_true (is_digit x) (list_all is_digit (before_first (λ b. eqb b 46) xs)) (sym (ap (list_all is_digit) (before_more (λ b. eqb b 46) x xs e)) ∙ h) in
    and_true (is_number_char x) (list_all is_number_char xs) (digit_number x b.0) (rest b.1 (sym (ap (list_all is_digit) (after_more (λ b. eqb b 46) x xs e)) ∙ k))

-- digits, a point, and digits
parts_numbers : (xs : List ℕ) → list_all is_digit (before_first (λ b. eqb b 46) xs) ≡ true → list_all is_digit (after_first (λ b. eqb b 46) xs) ≡ true → list_all is_number_char xs ≡ true
parts_numbers [] h k = refl
parts_numbers (x ∷ xs) h k = part_first x xs (eqb x 46) refl (parts_numbers xs) h k

-- a step that is refused where a test fails
pub passed : {A : Type 0} (t : Bool) (r : Result A Reason) (d : Reason) (v : A) → cond t r (Err d) ≡ Ok v → (t ≡ true) × (r ≡ Ok v)
passed true r d v h = (refl, h)
passed false r d v h = absurd cc

pub decimal_numbers : (run : List ℕ) (v : ℤ) → parse_decimal run ≡ Ok v → list_all is_number_char run ≡ true
unfolding parse_decimal
decimal_numbers run v h =
    let d = passed (is_decimal run) (cond (fits_eight_decimals (fraction run)) (cond (ltb 999999 (value (whole run))) (Err TooFar) (Ok (signed_value run (to_units (value_without_point run) (length (fraction run)))))) (Err TooFine)) BadNumber v h in
    let parts = both_true (list_all is_digit (whole run)) (list_all is_digit (fraction run)) (both_true (list_all is_digit (whole run) && list_all is_digit (fraction run)) (not (eqb (length (whole run) + length (fraction run)) 0)) d.0).0 in
    with_sign run (parts_numbers (without_sign run) parts.0 parts.1)

pub zero_filled_numbers : (run : List ℕ) (i d : ℕ) (zeros : Zeros) (v : ℤ) → parse_zero_filled run i d zeros ≡ Ok v → list_all is_number_char run ≡ true
unfolding parse_zero_filled
zero_filled_numbers run i d zeros v h =
    let t = passed (is_digits (without_sign run)) (zeros_to_fill zeros (i + d) (length (without_sign run)) >>= λ k. Ok (signed_value run (to_units (zero_filled (without_sign run) k) d))) BadNumber v h in
    with_sign run (digits_numbers (without_sign run) (both_true (not (eqb (length (without_sign run)) 0)) (list_all is_digit (without_sign run)) t.0).1)

-- the run of a coordinate
pub coordinate_numbers : (s : Settings) (run : List ℕ) (v : ℤ) → coordinate_of s run ≡ Ok v → list_all is_number_char run ≡ true
unfolding coordinate_of
coordinate_numbers s run v h = by (list_any is_point run) h
  where
    by : (t : Bool) → cond t (parse_decimal run) (parse_zero_filled run (format_in s).whole (format_in s).decimals (zeros_in s)) ≡ Ok v → list_all is_number_char run ≡ true
    by true e = decimal_numbers run v e
    by false e = zero_filled_numbers run (format_in s).whole (format_in s).decimals (zeros_in s) v e
