-- What a canonical spelling reads as.
use Rattle.std.proofs.Common.{◌≡◌, ℕ, zero, suc, ◌+◌, ◌-◌, ◌*◌, ◌/◌, ◌%◌, ◌^◌, ◌<◌, ◌≤◌, Bool, true, false, cond, not, ◌&&◌, eqb, ltb, List, [], ◌∷◌, ◌++◌, length, take, drop, ℤ, pos, negsuc, Ok, refl, sym, ap, ◌∙◌, ◌||◌, ◌⊎◌, inl, inr, replicate, arith, lit<, lit≤}
use Rattle.std.specs.Prelude.{neg_ℤ, unsigned_abs, decimal}
use Rattle.std.specs.List.{list_all, prefix_len, before_first, after_first}
use Rattle.std.proofs.lemmas.List.{append-nil, length-append, take_at, drop_all, take_all, drop_at}
use mathlib.Core.List.{append_assoc}
use Rattle.std.proofs.lemmas.List.Folds.{list_all-append}
use Rattle.std.proofs.lemmas.Bool.{eqb-true, le-ltb}
use Rattle.std.proofs.lemmas.Bool.Decides.{nat_tests}
use Rattle.std.proofs.lemmas.Fmt.{decimal_by_steps}
use Rattle.std.proofs.Math.Nat.{pow-suc}
use Rattle.grid_units.specs.Numbers.{is_digit, is_number_char, value, without_sign, is_negative, signed_value, to_units, whole, fraction, is_decimal, fits_eight_decimals, value_without_point, parse_decimal, max_units}
use Rattle.grid_units.specs.Spellings.{places, without_end_zeros, minus, decimals, fraction_text, fraction_text_or_zero, signed_whole, canonical, spelling_with_point}
use Rattle.grid_units.proofs.DigitLemmas.{value-append, parse_decimal_ok, to_units_is}
use Rattle.grid_units.proofs.TrailingZeros.{length-places}
use Rattle.grid_units.proofs.BoolLemmas.{and_true, both_true}

-- ---- digits of a number

-- digits that spell a number, one at least
pub record IsSpelling (n : ℕ) (ds : List ℕ) : Type 0 where
  pub digits : list_all is_digit ds ≡ true
  pub value : value ds ≡ n
  pub some : 0 < length ds

char_is_digit : (d : ℕ) → d < 10 → is_digit (48 + d) ≡ true
char_is_digit d h = grind (arith, nat_tests)

one_digit : (d : ℕ) → d < 10 → list_all is_digit ((48 + d) ∷ []) ≡ true
one_digit d h = and_true (is_digit (48 + d)) true (char_is_digit d h) refl

digit_of_char : (d : ℕ) → (48 + d) - 48 ≡ d
digit_of_char d = omega arith

value_push : (ds : List ℕ) (d : ℕ) → value (ds ++ (48 + d) ∷ []) ≡ value ds * 10 + d
value_push ds d = value-append ds ((48 + d) ∷ []) ∙ omega (arith, digit_of_char d)

pub spells_decimal : (n : ℕ) → n < 2 ^ 64 → IsSpelling n (decimal n)
spells_decimal = decimal_by_steps IsSpelling one more
  where
    one : (n : ℕ) → n < 10 → IsSpelling n ((48 + n) ∷ [])
    one n h = record { digits = one_digit n h; value = omega (arith, digit_of_char n); some = lit< tt }

    more : (n : ℕ) (ds : List ℕ) → 10 ≤ n → IsSpelling (n / 10) ds → IsSpelling n (ds ++ (48 + n % 10) ∷ [])
    more n ds h s = record {
      digits = list_all-append is_digit ds ((48 + n % 10) ∷ []) ∙ and_true _ _ s.digits (one_digit (n % 10) (omega arith));
      value = value_push ds (n % 10) ∙ omega (arith, s.value);
      some = omega (arith, length-append ds ((48 + n % 10) ∷ []));
    }

pub digits-places : (w n : ℕ) → list_all is_digit (places w n) ≡ true
unfolding places
digits-places zero n = refl
digits-places (suc w) n = list_all-append is_digit (places w (n / 10)) ((48 + n % 10) ∷ []) ∙ and_true _ _ (digits-places w (n / 10)) (one_digit (n % 10) (omega arith))

-- the last w digits of a number of w digits spell it
pub value-places : (w n : ℕ) → n < 10 ^ w → value (places w n) ≡ n
unfolding places
value-places zero n h = omega arith
value-places (suc w) n h =
    let p : 10 ^ suc w ≡ 10 ^ w * 10 = pow-suc 10 w in
    value_push (places w (n / 10)) (n % 10) ∙ omega (arith, value-places w (n / 10) (omega (arith, p)))

pub digit_number : (b : ℕ) → is_digit b ≡ true → is_number_char b ≡ true
digit_number b h = λ i. (h i || (eqb b 43 || (eqb b 45 || eqb b 46)))

pub minus_numbers : (v : ℤ) → list_all is_number_char (minus v) ≡ true
minus_numbers (pos n) = refl
minus_numbers (negsuc n) = refl

pub minus_short : (v : ℤ) → length (minus v) ≤ 1
minus_short (pos n) = lit≤ tt
minus_short (negsuc n) = lit≤ tt

-- ---- zeros at the end

empty_by_length : (xs : List ℕ) → length xs ≡ 0 → xs ≡ []
empty_by_length [] h = refl
empty_by_length (x ∷ xs) h = absurd (omega arith)

-- what trimming drops is zeros
pub trim_rest : (ds : List ℕ) → (k : ℕ) × (ds ≡ without_end_zeros ds ++ replicate k 48)
unfolding without_end_zeros
trim_rest [] = (0, refl)
trim_rest (d ∷ ds) = by (eqb d 48 && eqb (length (without_end_zeros ds)) 0) refl (trim_rest ds)
  where
    by : (t : Bool) → (eqb d 48 && eqb (length (without_end_zeros ds)) 0) ≡ t → (k : ℕ) × (ds ≡ without_end_zeros ds ++ replicate k 48) → (k : ℕ) × (d ∷ ds ≡ cond t [] (d ∷ without_end_zeros ds) ++ replicate k 48)
    by true e rest =
        let b = both_true (eqb d 48) (eqb (length (without_end_zeros ds)) 0) e in
        let none : without_end_zeros ds ≡ [] = empty_by_length (without_end_zeros ds) (eqb-true _ 0 b.1) in
        (suc rest.0, λ i. eqb-true d 48 b.0 i ∷ (rest.1 ∙ ap (λ l. l ++ replicate rest.0 48) none) i)
    by false e rest = (rest.0, ap (λ l. d ∷ l) rest.1)

pub value-zeros : (k : ℕ) → value (replicate k 48) ≡ 0
value-zeros zero = refl
value-zeros (suc k) = value-zeros k

pub length-zeros : (k : ℕ) → length {A = ℕ} (replicate k 48) ≡ k
length-zeros zero = refl
length-zeros (suc k) = ap suc (length-zeros k)

-- trimmed decimals, filled up with zeros, are the decimals
pub record IsTrim (ds ts : List ℕ) : Type 0 where
  pub digits : list_all is_digit ts ≡ true
  pub short : length ts ≤ length ds
  pub same : value ts * 10 ^ (length ds - length ts) ≡ value ds

pub trims : (ds : List ℕ) → list_all is_digit ds ≡ true → IsTrim ds (without_end_zeros ds)
trims ds h =
    let k = (trim_rest ds).0 in
    let e : ds ≡ without_end_zeros ds ++ replicate k 48 = (trim_rest ds).1 in
    let len : length ds ≡ length (without_end_zeros ds) + k = ap length e ∙ length-append (without_end_zeros ds) (replicate k 48) ∙ ap (λ n. length (without_end_zeros ds) + n) (length-zeros k) in
    let left : length ds - length (without_end_zeros ds) ≡ k = omega (arith, len) in
    let v : value ds ≡ value (without_end_zeros ds) * 10 ^ length (replicate k 48) + value (replicate k 48) = ap value e ∙ value-append (without_end_zeros ds) (replicate k 48) in
    let p : 10 ^ length (replicate k 48) ≡ 10 ^ k = ap (λ n. 10 ^ n) (length-zeros k) in
    let z : value (without_end_zeros ds) * 10 ^ length (replicate k 48) + value (replicate k 48) ≡ value (without_end_zeros ds) * 10 ^ k = (λ i. value (without_end_zeros ds) * p i + value-zeros k i) ∙ omega arith in
    record {
      digits = (both_true (list_all is_digit (without_end_zeros ds)) (list_all is_digit (replicate k 48)) (sym (list_all-append is_digit (without_end_zeros ds) (replicate k 48)) ∙ ap (list_all is_digit) (sym e) ∙ h)).0;
      short = omega (arith, len);
      same = ap (λ n. value (without_end_zeros ds) * 10 ^ n) left ∙ sym (v ∙ z);
    }

-- ---- the parts of a spelling

pub no_sign : (d : ℕ) → is_digit d ≡ true → (eqb d 43 || eqb d 45) ≡ false
no_sign d h = grind (arith, nat_tests)

pub no_minus : (d : ℕ) → is_digit d ≡ true → eqb d 45 ≡ false
no_minus d h = grind (arith, nat_tests)

no_point : (d : ℕ) → is_digit d ≡ true → not (eqb d 46) ≡ true
no_point d h = grind (arith, nat_tests)

without_sign-digits : (ds tail : List ℕ) → list_all is_digit ds ≡ true → 0 < length ds → without_sign (ds ++ tail) ≡ ds ++ tail
without_sign-digits [] tail h l = absurd (omega arith)
without_sign-digits (d ∷ ds) tail h l = ap (λ t. cond t (ds ++ tail) (d ∷ ds ++ tail)) (no_sign d (both_true (is_digit d) (list_all is_digit ds) h).0)

is_negative-digits : (ds tail : List ℕ) → list_all is_digit ds ≡ true → 0 < length ds → is_negative (ds ++ tail) ≡ false
is_negative-digits [] tail h l = absurd (omega arith)
is_negative-digits (d ∷ ds) tail h l = no_minus d (both_true (is_digit d) (list_all is_digit ds) h).0

point_after_digits : (ds fs : List ℕ) → list_all is_digit ds ≡ true → prefix_len (λ b. not (eqb b 46)) (ds ++ 46 ∷ fs) ≡ length ds
point_after_digits [] fs h = refl
point_after_digits (d ∷ ds) fs h =
    let b = both_true (is_digit d) (list_all is_digit ds) h in
    ap (λ t. cond t (1 + prefix_len (λ b. not (eqb b 46)) (ds ++ 46 ∷ fs)) 0) (no_point d b.0) ∙ omega (arith, point_after_digits ds fs b.1)

no_point_in_digits : (ds : List ℕ) → list_all is_digit ds ≡ true → prefix_len (λ b. not (eqb b 46)) ds ≡ length ds
no_point_in_digits [] h = refl
no_point_in_digits (d ∷ ds) h =
    let b = both_true (is_digit d) (list_all is_digit ds) h in
    ap (λ t. cond t (1 + prefix_len (λ b. not (eqb b 46)) ds) 0) (no_point d b.0) ∙ omega (arith, no_point_in_digits ds b.1)

-- a point and its decimals, or nothing where there are none
abbrev pub IsTail : List ℕ → List ℕ → Type 0
IsTail fs tail = (tail ≡ 46 ∷ fs) ⊎ ((tail ≡ []) × (fs ≡ []))

pub before_point : (ds fs tail : List ℕ) → list_all is_digit ds ≡ true → IsTail fs tail → before_first (λ b. eqb b 46) (ds ++ tail) ≡ ds
before_point ds fs tail h (inl e) = ap (λ t. before_first (λ b. eqb b 46) (ds ++ t)) e ∙ ap (λ n. take n (ds ++ 46 ∷ fs)) (point_after_digits ds fs h) ∙ take_at ds (46 ∷ fs) (length ds) refl
before_point ds fs tail h (inr n) = ap (λ t. before_first (λ b. eqb b 46) (ds ++ t)) n.0 ∙ ap (before_first (λ b. eqb b 46)) (append-nil ds) ∙ ap (λ k. take k ds) (no_point_in_digits ds h) ∙ take_all (length ds) ds (omega arith)

pub fraction_after_point : (ds fs tail : List ℕ) → list_all is_digit ds ≡ true → IsTail fs tail → after_first (λ b. eqb b 46) (ds ++ tail) ≡ fs
fraction_after_point ds fs tail h (inl e) =
    ap (λ t. after_first (λ b. eqb b 46) (ds ++ t)) e
    ∙ ap (λ n. drop (n + 1) (ds ++ 46 ∷ fs)) (point_after_digits ds fs h)
    ∙ ap (drop (length ds + 1)) (sym (append_assoc ds (46 ∷ []) fs))
    ∙ drop_at (ds ++ 46 ∷ []) fs (length ds + 1) (length-append ds (46 ∷ []))
fraction_after_point ds fs tail h (inr n) =
    ap (λ t. after_first (λ b. eqb b 46) (ds ++ t)) n.0 ∙ ap (after_first (λ b. eqb b 46)) (append-nil ds) ∙ drop_all _ ds (omega (arith, no_point_in_digits ds h)) ∙ sym n.1

without_sign-minus : (v : ℤ) (ds tail : List ℕ) → list_all is_digit ds ≡ true → 0 < length ds → without_sign ((minus v ++ ds) ++ tail) ≡ ds ++ tail
without_sign-minus (pos n) ds tail h l = without_sign-digits ds tail h l
without_sign-minus (negsuc n) ds tail h l = refl

signed-minus : (v : ℤ) (ds tail : List ℕ) → list_all is_digit ds ≡ true → 0 < length ds → signed_value ((minus v ++ ds) ++ tail) (unsigned_abs v) ≡ v
signed-minus (pos n) ds tail h l = ap (λ t. cond t (neg_ℤ (pos n)) (pos n)) (is_negative-digits ds tail h l)
signed-minus (negsuc n) ds tail h l = refl

-- ---- the whole

pub reads : (v : ℤ) (fs tail : List ℕ) → unsigned_abs v ≤ max_units → list_all is_digit fs ≡ true → length fs ≤ 8 → value fs * 10 ^ (8 - length fs) ≡ unsigned_abs v % 10 ^ 8 → IsTail fs tail → parse_decimal (signed_whole (10 ^ 8) v ++ tail) ≡ Ok v
reads v fs tail small fds short part t =
    let n = unsigned_abs v / 10 ^ 8 in
    let s = spells_decimal n (omega arith) in
    let ds = decimal n in
    let text = (minus v ++ ds) ++ tail in
    let u : without_sign text ≡ ds ++ tail = without_sign-minus v ds tail s.digits s.some in
    let w : whole text ≡ ds = ap (before_first (λ b. eqb b 46)) u ∙ before_point ds fs tail s.digits t in
    let f : fraction text ≡ fs = ap (after_first (λ b. eqb b 46)) u ∙ fraction_after_point ds fs tail s.digits t in
    let coarse : fits_eight_decimals fs ≡ true = ap (list_all (λ b. eqb b 48)) (drop_all 8 fs short) in
    let some : not (eqb (length ds + length fs) 0) ≡ true = ap not (positive (length ds + length fs) (omega (arith, s.some))) in
    let number : is_decimal text ≡ true = (λ i. (list_all is_digit (w i) && list_all is_digit (f i)) && not (eqb (length (w i) + length (f i)) 0)) ∙ and_true _ _ (and_true _ _ s.digits fds) some in
    let low : ltb 999999 (value (whole text)) ≡ false = ap (λ xs. ltb 999999 (value xs)) w ∙ le-ltb _ _ (omega (arith, s.value)) in
    let all : fs ≡ take 8 fs = sym (take_all 8 fs short) in
    let whole_units : value ds * 10 ^ 8 ≡ n * 10 ^ 8 = ap (λ m. m * 10 ^ 8) s.value in
    let digit_of_char : unsigned_abs v ≡ to_units (value (ds ++ fs)) (length fs) =
    omega (arith, whole_units, part) ∙ ap (λ xs. value ds * 10 ^ 8 + value xs * 10 ^ (8 - length xs)) all ∙ sym (to_units_is ds fs coarse) in
    let is : v ≡ signed_value text (to_units (value_without_point text) (length (fraction text))) =
    sym (signed-minus v ds tail s.digits s.some) ∙ ap (signed_value text) (digit_of_char ∙ (λ i. to_units (value (sym w i ++ sym f i)) (length (sym f i)))) in
    sym (parse_decimal_ok text v number (ap fits_eight_decimals f ∙ coarse) low is)
  where
    positive : (m : ℕ) → 0 < m → eqb m 0 ≡ false
    positive m h = by (eqb m 0) refl
      where
        by : (b : Bool) → eqb m 0 ≡ b → eqb m 0 ≡ false
        by true e = absurd (omega (arith, h, eqb-true m 0 e))
        by false e = e

decimals_trim : (n : ℕ) → IsTrim (places 8 (n % 10 ^ 8)) (decimals n)
decimals_trim n = trims (places 8 (n % 10 ^ 8)) (digits-places 8 (n % 10 ^ 8))

decimals_value : (n : ℕ) → value (decimals n) * 10 ^ (8 - length (decimals n)) ≡ n % 10 ^ 8
decimals_value n = let t = decimals_trim n in ap (λ k. value (decimals n) * 10 ^ (k - length (decimals n))) (sym (length-places 8 (n % 10 ^ 8))) ∙ t.same ∙ value-places 8 (n % 10 ^ 8) (omega arith)

decimals_short : (n : ℕ) → length (decimals n) ≤ 8
decimals_short n = let t = decimals_trim n in omega (arith, t.short, length-places 8 (n % 10 ^ 8))

tail_of : (fs : List ℕ) → IsTail fs (fraction_text fs)
tail_of [] = inr (refl, refl)
tail_of (f ∷ fs) = inl refl

-- the canonical spelling reads as the value
pub canonical_reads : (v : ℤ) → unsigned_abs v ≤ max_units → parse_decimal (canonical v) ≡ Ok v
unfolding canonical
canonical_reads v h = reads v (decimals (unsigned_abs v)) (fraction_text (decimals (unsigned_abs v))) h (decimals_trim (unsigned_abs v)).digits (decimals_short (unsigned_abs v)) (decimals_value (unsigned_abs v)) (tail_of (decimals (unsigned_abs v)))

-- and so does the pointed one
pub pointed_reads : (v : ℤ) → unsigned_abs v ≤ max_units → parse_decimal (spelling_with_point v) ≡ Ok v
unfolding spelling_with_point
pointed_reads v h = by (decimals (unsigned_abs v)) (decimals_trim (unsigned_abs v)).digits (decimals_short (unsigned_abs v)) (decimals_value (unsigned_abs v))
  where
    by : (fs : List ℕ) → list_all is_digit fs ≡ true → length fs ≤ 8 → value fs * 10 ^ (8 - length fs) ≡ unsigned_abs v % 10 ^ 8 → parse_decimal (signed_whole (10 ^ 8) v ++ fraction_text_or_zero fs) ≡ Ok v
    by [] d s e = reads v (48 ∷ []) (46 ∷ 48 ∷ []) h refl (lit≤ tt) (omega (arith, e)) (inl refl)
    by (f ∷ fs) d s e = reads v (f ∷ fs) (46 ∷ f ∷ fs) h d s e (inl refl)
