-- The bytes of numbers that are read, and the parts of texts that are joined.
use Rattle.gerber_commands.proofs.Common.{◌≡◌, ℕ, ◌+◌, ◌<◌, Bool, true, false, cond, not, ◌||◌, ◌&&◌, eqb, leb, ltb, List, [], ◌∷◌, ◌++◌, length, take, get_or, Ok, Err, refl, sym, ap, ◌∙◌, arith, list_all, list_any, AllByRecursion, slice_split, onto_first, join_with_byte, position_or_len, before_first, after_first, take_all, prefix_len_stops, split_at_first, eqb-true, ltb-true, ltb-false, nat_tests, BadNumber, TooFine, TooFar, is_digit, is_digits, is_number_char, value, without_sign, signed_value, to_units, whole, fraction, is_decimal, fits_eight_decimals, value_without_point, HasNo, and_true, both_true, not_false, or_is_false, list_all_append, digits_numbers, split_by}
use Rattle.std.proofs.Common.{ℤ}
use Rattle.grid_units.specs.Numbers.{parse_decimal}
use Rattle.gerber_commands.specs.Numbers.{nat_of}
use Rattle.gerber_commands.proofs.RowLemmas.{guarded, allowed}

-- ---- numbers that are read

pub nat_digits : (digits : List ℕ) (n : ℕ) → nat_of digits ≡ Ok n → list_all is_digit digits ≡ true
unfolding nat_of
nat_digits digits n e =
    let g = guarded (is_digits digits && leb (value digits) 2147483647) (value digits) n BadNumber e in
    let k = both_true (is_digits digits) (leb (value digits) 2147483647) g.0 in
    (both_true (not (eqb (length digits) 0)) (list_all is_digit digits) k.0).1

-- digits, and at most one point among them
unsigned_numbers : (u : List ℕ) → list_all is_digit (before_first (λ b. eqb b 46) u) ≡ true → list_all is_digit (after_first (λ b. eqb b 46) u) ≡ true → list_all is_number_char u ≡ true
unsigned_numbers u h k = by (ltb (position_or_len (λ b. eqb b 46) u) (length u)) refl
  where
    by : (t : Bool) → ltb (position_or_len (λ b. eqb b 46) u) (length u) ≡ t → list_all is_number_char u ≡ true
    by true less =
        let at = position_or_len (λ b. eqb b 46) u in
        let lt : at < length u = ltb-true at (length u) less in
        let point : get_or u at 0 ≡ 46 = eqb-true (get_or u at 0) 46 (not_false (eqb (get_or u at 0) 46) (prefix_len_stops (λ b. not (eqb b 46)) u 0 lt)) in
        let w = before_first (λ b. eqb b 46) u in
        let f = after_first (λ b. eqb b 46) u in
        ap (list_all is_number_char) (split_at_first (λ b. eqb b 46) u 0 lt ∙ ap (λ (b : ℕ). w ++ b ∷ f) point) ∙ list_all_append is_number_char w (46 ∷ f) (digits_numbers w h) (digits_numbers f k)
    by false more =
        let at = position_or_len (λ b. eqb b 46) u in
        ap (list_all is_number_char) (sym (take_all at u (ltb-false at (length u) more))) ∙ digits_numbers (take at u) h

pub sign_number : (b : ℕ) → (eqb b 43 || eqb b 45) ≡ true → is_number_char b ≡ true
sign_number b h = grind (arith, nat_tests)

signed_numbers : (run : List ℕ) → list_all is_number_char (without_sign run) ≡ true → list_all is_number_char run ≡ true
signed_numbers [] h = refl
signed_numbers (b ∷ bs) h = by (eqb b 43 || eqb b 45) refl h
  where
    by : (t : Bool) → (eqb b 43 || eqb b 45) ≡ t → list_all is_number_char (cond t bs (b ∷ bs)) ≡ true → list_all is_number_char (b ∷ bs) ≡ true
    by true e k = and_true (is_number_char b) (list_all is_number_char bs) (sign_number b e) k
    by false e k = k

pub decimal_numbers : (run : List ℕ) (v : ℤ) → parse_decimal run ≡ Ok v → list_all is_number_char run ≡ true
unfolding parse_decimal
decimal_numbers run v e =
    let w = whole run in
    let f = fraction run in
    let a = allowed (is_decimal run) (cond (fits_eight_decimals f) (cond (ltb 999999 (value w)) (Err TooFar) (Ok (signed_value run (to_units (value_without_point run) (length f))))) (Err TooFine)) v BadNumber e in
    let digits = both_true (list_all is_digit w) (list_all is_digit f) (both_true (list_all is_digit w && list_all is_digit f) (not (eqb (length w + length f) 0)) a.0).0 in
    signed_numbers run (unsigned_numbers (without_sign run) digits.0 digits.1)

-- ---- parts that are joined

split_alone : (p : ℕ → Bool) (xs : List ℕ) → list_any p xs ≡ false → slice_split p xs ≡ xs ∷ []
split_alone p [] h = refl
split_alone p (x ∷ xs) h =
    let k = or_is_false (p x) (list_any p xs) h in
    ap (λ t. cond t ([] ∷ slice_split p xs) (onto_first x (slice_split p xs))) k.0 ∙ ap (onto_first x) (split_alone p xs k.1)

split_first : (p : ℕ → Bool) (xs : List ℕ) (b : ℕ) (ys : List ℕ) → p b ≡ true → list_any p xs ≡ false → slice_split p (xs ++ b ∷ ys) ≡ xs ∷ slice_split p ys
split_first p [] b ys e h = ap (λ t. cond t ([] ∷ slice_split p ys) (onto_first b (slice_split p ys))) e
split_first p (x ∷ xs) b ys e h =
    let k = or_is_false (p x) (list_any p xs) h in
    ap (λ t. cond t ([] ∷ slice_split p (xs ++ b ∷ ys)) (onto_first x (slice_split p (xs ++ b ∷ ys)))) k.0 ∙ ap (onto_first x) (split_first p xs b ys e k.1)

-- joined parts are divided again
pub parts_divided : (at : ℕ) (part : List ℕ) (parts : List (List ℕ)) → eqb at at ≡ true → HasNo at part → AllByRecursion (HasNo at) parts → split_by at (join_with_byte at (part ∷ parts)) ≡ part ∷ parts
parts_divided at part [] e h k = split_alone (λ b. eqb b at) part h
parts_divided at part (next ∷ parts) e h k = split_first (λ b. eqb b at) part at (join_with_byte at (next ∷ parts)) e h ∙ ap (λ (l : List (List ℕ)). part ∷ l) (parts_divided at next parts e k.0 k.1)

-- bytes that pass one test pass no other one
pub none_passes : (p q : ℕ → Bool) → ((b : ℕ) → p b ≡ true → q b ≡ false) → (xs : List ℕ) → list_all p xs ≡ true → list_any q xs ≡ false
none_passes p q h [] e = refl
none_passes p q h (x ∷ xs) e = let k = both_true (p x) (list_all p xs) e in λ i. h x k.0 i || none_passes p q h xs k.1 i

number_no_x : (b : ℕ) → is_number_char b ≡ true → eqb b 88 ≡ false
number_no_x b h = grind (arith, nat_tests)

pub no_x : (runs : List (List ℕ)) → list_all (list_all is_number_char) runs ≡ true → AllByRecursion (HasNo 88) runs
no_x [] h = tt
no_x (run ∷ runs) h =
    let k = both_true (list_all is_number_char run) (list_all (list_all is_number_char) runs) h in
    (none_passes is_number_char (λ b. eqb b 88) number_no_x run k.0, no_x runs k.1)
