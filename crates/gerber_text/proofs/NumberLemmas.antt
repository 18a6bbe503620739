-- Numbers as they are written: their bytes, what they are read as, and how long they are.
use Rattle.gerber_text.proofs.Common.{◌≡◌, ℕ, ◌<◌, ◌≤◌, ◌/◌, ◌%◌, ◌^◌, true, false, cond, not, ◌||◌, ◌&&◌, eqb, leb, ltb, List, [], ◌∷◌, ◌++◌, length, ℤ, pos, negsuc, Ok, Err, refl, ap, ◌∙◌, arith, lit<, lit≤, unsigned_abs, decimal, neg_ℤ, list_all, prefix_len, length-append, length-drop, length-decimal-le, leb-true, le-leb, le-ltb, ltb-true, nat_tests, BadNumber, TooManyDigits, is_digit, is_digits, is_number_char, value, without_sign, signed_value, parse_decimal, max_units, significant_digits, int_of, nat_of, integer, is_text_byte, is_text, is_nat, is_int, is_dec, and_true, both_true, not_empty, list_all_weaker, list_all_append, digits_numbers}
use Rattle.grid_units.specs.Spellings.{minus, decimals, fraction_text, canonical, places}
use Rattle.grid_units.proofs.TrailingZeros.{length-places}
use Rattle.grid_units.proofs.SpellingsLemmas.{IsSpelling, spells_decimal, digits-places, trims, canonical_reads, minus_numbers, minus_short}

-- ---- bytes

pub number_text : (b : ℕ) → is_number_char b ≡ true → is_text_byte b ≡ true
number_text b h = grind (arith, nat_tests)

pub numbers_text : (xs : List ℕ) → list_all is_number_char xs ≡ true → is_text xs ≡ true
numbers_text xs h = list_all_weaker is_number_char is_text_byte number_text xs h

-- ---- numbers without a sign

-- how a number of at most 2,147,483,647 is written
pub record IsNat (n : ℕ) (ds : List ℕ) : Type 0 where
  pub digits : list_all is_digit ds ≡ true
  pub reads : nat_of ds ≡ Ok n
  pub short : length ds ≤ 10

pub nat_is : (n : ℕ) → is_nat n ≡ true → IsNat n (decimal n)
unfolding nat_of
nat_is n h =
    let le : n ≤ 2147483647 = leb-true n 2147483647 h in
    let s = spells_decimal n (omega (arith, le)) in
    let ds = decimal n in
    let a : is_digits ds ≡ true = and_true (not (eqb (length ds) 0)) (list_all is_digit ds) (not_empty (length ds) s.some) s.digits in
    let b : leb (value ds) 2147483647 ≡ true = le-leb (value ds) 2147483647 (omega (arith, s.value, le)) in
    record {
      digits = s.digits;
      reads = λ i. cond (a i && b i) (Ok (s.value i)) (Err BadNumber);
      short = length-decimal-le 10 n (lit< tt) (omega (arith, le)) (omega (arith, le));
    }

-- ---- numbers with a sign

digit_no_sign : (d : ℕ) → is_digit d ≡ true → (eqb d 43 || eqb d 45) ≡ false
digit_no_sign d h = grind (arith, nat_tests)

digit_no_minus : (d : ℕ) → is_digit d ≡ true → eqb d 45 ≡ false
digit_no_minus d h = grind (arith, nat_tests)

unsigned_is : (v : ℤ) (ds : List ℕ) → list_all is_digit ds ≡ true → 0 < length ds → without_sign (minus v ++ ds) ≡ ds
unsigned_is (negsuc n) ds h l = refl
unsigned_is (pos n) [] h l = refl
unsigned_is (pos n) (d ∷ ds) h l = ap (λ t. cond t ds (d ∷ ds)) (digit_no_sign d (both_true (is_digit d) (list_all is_digit ds) h).0)

signed_is : (v : ℤ) (ds : List ℕ) → list_all is_digit ds ≡ true → 0 < length ds → signed_value (minus v ++ ds) (unsigned_abs v) ≡ v
signed_is (negsuc n) ds h l = refl
signed_is (pos n) [] h l = refl
signed_is (pos n) (d ∷ ds) h l = ap (λ t. cond t (neg_ℤ (pos n)) (pos n)) (digit_no_minus d (both_true (is_digit d) (list_all is_digit ds) h).0)

int_reads : (v : ℤ) (ds : List ℕ) → IsSpelling (unsigned_abs v) ds → length ds ≤ 12 → int_of (minus v ++ ds) ≡ Ok v
unfolding int_of
int_reads v ds s l =
    let run = minus v ++ ds in
    let u : without_sign run ≡ ds = unsigned_is v ds s.digits s.some in
    let d : is_digits (without_sign run) ≡ true = ap is_digits u ∙ and_true (not (eqb (length ds) 0)) (list_all is_digit ds) (not_empty (length ds) s.some) s.digits in
    let few : length (significant_digits (without_sign run)) ≤ 12 = omega (arith, l, ap length u, length-drop (prefix_len (λ b. eqb b 48) (without_sign run)) (without_sign run)) in
    let k : ltb 12 (length (significant_digits (without_sign run))) ≡ false = le-ltb _ _ few in
    (λ i. cond (d i) (cond (k i) (Err TooManyDigits) (Ok (signed_value run (value (without_sign run))))) (Err BadNumber))
    ∙ ap (λ n. Ok (signed_value run n)) (ap value u ∙ s.value)
    ∙ ap (λ (z : ℤ). Ok z) (signed_is v ds s.digits s.some)

-- how a number of at most 12 digits is written
pub record IsInt (v : ℤ) (run : List ℕ) : Type 0 where
  pub numbers : list_all is_number_char run ≡ true
  pub reads : int_of run ≡ Ok v
  pub short : length run ≤ 13

pub int_is : (v : ℤ) → is_int v ≡ true → IsInt v (integer v)
int_is v h =
    let n = unsigned_abs v in
    let lt : n < 10 ^ 12 = ltb-true n (10 ^ 12) h in
    let s = spells_decimal n (omega (arith, lt)) in
    let few : length (decimal n) ≤ 12 = length-decimal-le 12 n (lit< tt) lt (omega (arith, lt)) in
    record {
      numbers = list_all_append is_number_char (minus v) (decimal n) (minus_numbers v) (digits_numbers (decimal n) s.digits);
      reads = int_reads v (decimal n) s few;
      short = omega (arith, length-append (minus v) (decimal n), minus_short v, few);
    }

-- ---- decimals

-- how a decimal is written
pub record IsDec (v : ℤ) (run : List ℕ) : Type 0 where
  pub numbers : list_all is_number_char run ≡ true
  pub reads : parse_decimal run ≡ Ok v
  pub short : length run ≤ 16

tail_numbers : (fs : List ℕ) → list_all is_digit fs ≡ true → list_all is_number_char (fraction_text fs) ≡ true
tail_numbers [] h = refl
tail_numbers (f ∷ fs) h = digits_numbers (f ∷ fs) h

tail_short : (fs : List ℕ) → length fs ≤ 8 → length (fraction_text fs) ≤ 9
tail_short [] h = lit≤ tt
tail_short (f ∷ fs) h = omega (arith, h)

pub dec_is : (v : ℤ) → is_dec v ≡ true → IsDec v (canonical v)
unfolding canonical
dec_is v t =
    let n = unsigned_abs v in
    let h : n ≤ max_units = leb-true n max_units t in
    let fs = decimals n in
    let trim = trims (places 8 (n % 10 ^ 8)) (digits-places 8 (n % 10 ^ 8)) in
    let s = spells_decimal (n / 10 ^ 8) (omega (arith, h)) in
    let whole : length (decimal (n / 10 ^ 8)) ≤ 6 = length-decimal-le 6 (n / 10 ^ 8) (lit< tt) (omega (arith, h)) (omega (arith, h)) in
    let few : length fs ≤ 8 = omega (arith, trim.short, length-places 8 (n % 10 ^ 8)) in
    record {
      numbers = list_all_append is_number_char (minus v ++ decimal (n / 10 ^ 8)) (fraction_text fs)
          (list_all_append is_number_char (minus v) (decimal (n / 10 ^ 8)) (minus_numbers v) (digits_numbers (decimal (n / 10 ^ 8)) s.digits))
          (tail_numbers fs trim.digits);
      reads = canonical_reads v h;
      short = omega (arith, length-append (minus v ++ decimal (n / 10 ^ 8)) (fraction_text fs), length-append (minus v) (decimal (n / 10 ^ 8)), minus_short v, whole, tail_short fs few);
    }
