-- Runs of a line: digits, numbers, and what follows them.
use Rattle.drill_lines.proofs.Common.{◌≡◌, ℕ, zero, suc, ◌<◌, ◌≤◌, Bool, true, false, cond, not, ◌||◌, ◌&&◌, eqb, List, [], ◌∷◌, ◌++◌, length, ℤ, Ok, refl, ap, ◌∙◌, arith, replicate, lit<, lit≤, decimal, list_all, list_any, length-append, nat_tests, length-decimal-le, is_digit, is_number_char, parse_decimal, spells_decimal, digit_number, is_blank, without_end_blanks, is_point, and_true, both_true, list_all_weaker, list_all_append}
use Rattle.std.proofs.Common.{◌/◌, ◌%◌, ◌^◌}
use Rattle.std.specs.Prelude.{unsigned_abs}
use Rattle.grid_units.proofs.TrailingZeros.{length-places}
use Rattle.grid_units.specs.Numbers.{max_units}
use Rattle.grid_units.specs.Spellings.{minus, decimals, fraction_text_or_zero, spelling_with_point, places}
use Rattle.grid_units.proofs.SpellingsLemmas.{digits-places, trims, pointed_reads, minus_numbers, minus_short}

pub or_right : (a b : Bool) → b ≡ true → (a || b) ≡ true
or_right true b h = refl
or_right false b h = h

any_append : (p : ℕ → Bool) (xs ys : List ℕ) → list_any p ys ≡ true → list_any p (xs ++ ys) ≡ true
any_append p [] ys h = h
any_append p (x ∷ xs) ys h = or_right (p x) (list_any p (xs ++ ys)) (any_append p xs ys h)

-- ---- a spelled decimal

-- the run of a decimal, spelled with its point
pub record IsRun (v : ℤ) (run : List ℕ) : Type 0 where
  pub numbers : list_all is_number_char run ≡ true
  pub point : list_any is_point run ≡ true
  pub reads : parse_decimal run ≡ Ok v

pub decimal_digits : (n : ℕ) → n < 2 ^ 64 → list_all is_digit (decimal n) ≡ true
decimal_digits n h = (spells_decimal n h).digits

tail_numbers : (fs : List ℕ) → list_all is_digit fs ≡ true → list_all is_number_char (fraction_text_or_zero fs) ≡ true
tail_numbers [] h = refl
tail_numbers (f ∷ fs) h = list_all_weaker is_digit is_number_char digit_number (f ∷ fs) h

tail_point : (fs : List ℕ) → list_any is_point (fraction_text_or_zero fs) ≡ true
tail_point [] = refl
tail_point (f ∷ fs) = refl

pub pointed_run : (v : ℤ) → unsigned_abs v ≤ max_units → IsRun v (spelling_with_point v)
unfolding spelling_with_point
pointed_run v h =
    let n = unsigned_abs v in
    let whole : n / 10 ^ 8 < 2 ^ 64 = omega (arith, h) in
    let fs = decimals n in
    record {
      numbers = list_all_append is_number_char (minus v ++ decimal (n / 10 ^ 8)) (fraction_text_or_zero fs)
          (list_all_append is_number_char (minus v) (decimal (n / 10 ^ 8)) (minus_numbers v) (list_all_weaker is_digit is_number_char digit_number (decimal (n / 10 ^ 8)) (decimal_digits (n / 10 ^ 8) whole)))
          (tail_numbers fs (trims (places 8 (n % 10 ^ 8)) (digits-places 8 (n % 10 ^ 8))).digits);
      point = any_append is_point (minus v ++ decimal (n / 10 ^ 8)) (fraction_text_or_zero fs) (tail_point fs);
      reads = pointed_reads v h;
    }

-- ---- bytes that are kept

-- a byte that is neither a blank nor LF
unfoldable pub is_no_blank_or_break : ℕ → Bool
is_no_blank_or_break b = not (is_blank b) && not (eqb b 10)

pub solid_number : (b : ℕ) → is_number_char b ≡ true → is_no_blank_or_break b ≡ true
unfolding is_no_blank_or_break
solid_number b h = grind (arith, nat_tests)

-- a line without blanks is kept whole
pub solid_kept : (xs : List ℕ) → list_all is_no_blank_or_break xs ≡ true → without_end_blanks xs ≡ xs
unfolding is_no_blank_or_break
solid_kept [] h = refl
solid_kept (x ∷ xs) h =
    let b = both_true (is_no_blank_or_break x) (list_all is_no_blank_or_break xs) h in
    let c = both_true (not (is_blank x)) (not (eqb x 10)) b.0 in
    no_blank (is_blank x) c.0 ∙ ap (λ (l : List ℕ). x ∷ l) (solid_kept xs b.1)
  where
    no_blank : (t : Bool) → not t ≡ true → cond (t && eqb (length (without_end_blanks xs)) 0) [] (x ∷ without_end_blanks xs) ≡ x ∷ without_end_blanks xs
    no_blank true e = absurd cc
    no_blank false e = refl

pub zeros_pass : (n : ℕ) (p : ℕ → Bool) → p 48 ≡ true → list_all p (replicate n 48) ≡ true
zeros_pass zero p h = refl
zeros_pass (suc n) p h = and_true (p 48) (list_all p (replicate n 48)) h (zeros_pass n p h)

-- ---- lengths

tail_short : (fs : List ℕ) → length fs ≤ 8 → length (fraction_text_or_zero fs) ≤ 9
tail_short [] h = lit≤ tt
tail_short (f ∷ fs) h = omega (arith, h)

pub pointed_short : (v : ℤ) → unsigned_abs v ≤ max_units → length (spelling_with_point v) ≤ 16
unfolding spelling_with_point
pointed_short v h =
    let n = unsigned_abs v in
    let fs = decimals n in
    let whole : length (decimal (n / 10 ^ 8)) ≤ 6 = length-decimal-le 6 (n / 10 ^ 8) (lit< tt) (omega (arith, h)) (omega (arith, h)) in
    let short : length fs ≤ 8 = omega (arith, (trims (places 8 (n % 10 ^ 8)) (digits-places 8 (n % 10 ^ 8))).short, length-places 8 (n % 10 ^ 8)) in
    omega (arith, length-append (minus v ++ decimal (n / 10 ^ 8)) (fraction_text_or_zero fs), length-append (minus v) (decimal (n / 10 ^ 8)), minus_short v, whole, tail_short fs short)
