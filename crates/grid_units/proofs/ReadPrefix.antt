-- A decimal at the start of a text, by its parts.
use Rattle.std.proofs.Common.{◌≡◌, ℕ, ◌+◌, ◌-◌, ◌*◌, ◌^◌, ◌<◌, ◌≤◌, Bool, true, false, cond, not, ◌&&◌, ◌||◌, eqb, ltb, List, [], ◌∷◌, ◌++◌, length, ℤ, refl, sym, ap, ◌∙◌, inl, arith, append_assoc, lit≤}
use Rattle.std.specs.Prelude.{neg_ℤ, pos}
use Rattle.std.specs.List.{list_all, list_any, prefix_len, before_first, after_first, AllByRecursion}
use Rattle.std.proofs.lemmas.List.{take_all, drop_all, length-append}
use Rattle.std.proofs.lemmas.List.Folds.{list_all-append, list_any-append}
use Rattle.std.proofs.lemmas.List.Elements.{All-from_recursion}
use Rattle.std.proofs.lemmas.Bool.{le-ltb}
use Rattle.std.proofs.Math.Nat.{pow-le-pow_right}
use Rattle.grid_units.specs.Numbers.{is_digit, is_number_char, value, without_sign, is_negative, signed_value, to_units, whole, fraction, is_decimal, fits_eight_decimals, value_without_point}
use Rattle.grid_units.specs.ReadPrefix.{IsPrefixDecimal}
use Rattle.grid_units.proofs.DigitLemmas.{parse_decimal_ok, to_units_is, value_lt, filled_lt}
use Rattle.grid_units.proofs.SpellingsLemmas.{before_point, fraction_after_point, no_sign, no_minus}
use Rattle.grid_units.proofs.BoolLemmas.{and_true, both_true}

-- the sign at the start of a text, where there is one
record HasSign (bytes sign : List ℕ) : Type 0 where
  whole : bytes ≡ sign ++ without_sign bytes
  numbers : list_all is_number_char sign ≡ true
  after : (body : List ℕ) → without_sign body ≡ body → without_sign (sign ++ body) ≡ body
  short : length sign ≤ 1
  negative : (body : List ℕ) → is_negative body ≡ false → is_negative (sign ++ body) ≡ is_negative bytes

or_false : (a b : Bool) → (a || b) ≡ false → b ≡ false
or_false true b h = absurd cc
or_false false b h = h

sign_number : (b : ℕ) → (eqb b 43 || eqb b 45) ≡ true → is_number_char b ≡ true
sign_number b h = by (is_digit b) (eqb b 43) (eqb b 45) (eqb b 46) h
  where
    by : (d p m o : Bool) → (p || m) ≡ true → (d || (p || (m || o))) ≡ true
    by true p m o h = refl
    by false true m o h = refl
    by false false true o h = refl
    by false false false o h = absurd cc

has_sign : (bytes : List ℕ) → (sign : List ℕ) × HasSign bytes sign
has_sign [] = ([], record { whole = refl; numbers = refl; short = lit≤ tt; after = λ body h. h; negative = λ body h. h })
has_sign (b ∷ bs) = by (eqb b 43 || eqb b 45) refl
  where
    by : (t : Bool) → (eqb b 43 || eqb b 45) ≡ t → (sign : List ℕ) × HasSign (b ∷ bs) sign
    by true e = (
      b ∷ [],
      record {
        whole = ap (λ t. b ∷ cond t bs (b ∷ bs)) (sym e);
        numbers = and_true (is_number_char b) true (sign_number b e) refl;
        short = lit≤ tt;
        after = λ body h. ap (λ t. cond t body (b ∷ body)) e;
        negative = λ body h. refl;
      },
    )
    by false e = (
      [],
      record {
        whole = ap (λ t. cond t bs (b ∷ bs)) (sym e);
        numbers = refl;
        short = lit≤ tt;
        after = λ body h. h;
        negative = λ body h. h ∙ sym (or_false (eqb b 43) (eqb b 45) e);
      },
    )

unsigned_body : (ds fs : List ℕ) → list_all is_digit ds ≡ true → without_sign (ds ++ 46 ∷ fs) ≡ ds ++ 46 ∷ fs
unsigned_body [] fs h = refl
unsigned_body (d ∷ ds) fs h = ap (λ t. cond t (ds ++ 46 ∷ fs) (d ∷ ds ++ 46 ∷ fs)) (no_sign d (both_true (is_digit d) (list_all is_digit ds) h).0)

positive_body : (ds fs : List ℕ) → list_all is_digit ds ≡ true → is_negative (ds ++ 46 ∷ fs) ≡ false
positive_body [] fs h = refl
positive_body (d ∷ ds) fs h = no_minus d (both_true (is_digit d) (list_all is_digit ds) h).0

pub digits_numbers : (ds : List ℕ) → list_all is_digit ds ≡ true → list_all is_number_char ds ≡ true
digits_numbers [] h = refl
digits_numbers (d ∷ ds) h =
    let b = both_true (is_digit d) (list_all is_digit ds) h in
    and_true (is_number_char d) (list_all is_number_char ds) (λ i. (b.0 i || (eqb d 43 || (eqb d 45 || eqb d 46)))) (digits_numbers ds b.1)

any_point : (ds fs : List ℕ) → list_any (λ b. eqb b 46) (ds ++ 46 ∷ fs) ≡ true
any_point [] fs = refl
any_point (d ∷ ds) fs = by (eqb d 46) _ (any_point ds fs)
  where
    by : (a b : Bool) → b ≡ true → (a || b) ≡ true
    by true b h = refl
    by false b h = h

any_after_point : (xs ys : List ℕ) → list_any (λ b. eqb b 46) ys ≡ true → list_any (λ b. eqb b 46) (xs ++ ys) ≡ true
any_after_point xs ys h = list_any-append (λ b. eqb b 46) xs ys ∙ by (list_any (λ b. eqb b 46) xs) _ h
  where
    by : (a b : Bool) → b ≡ true → (a || b) ≡ true
    by true b h = refl
    by false b h = h

all_digit : (ds : List ℕ) → list_all is_digit ds ≡ true → AllByRecursion (λ b. is_digit b ≡ true) ds
all_digit [] h = tt
all_digit (d ∷ ds) h = let b = both_true (is_digit d) (list_all is_digit ds) h in (b.0, all_digit ds b.1)

-- up to six digits spell at most 999,999
pub six_digits : (ds : List ℕ) → list_all is_digit ds ≡ true → length ds ≤ 6 → value ds ≤ 999999
six_digits ds h le =
    let lt : value ds < 10 ^ length ds = value_lt ds (all_digit ds h) in
    let p : 10 ^ length ds ≤ 10 ^ 6 = pow-le-pow_right {n = 10} (omega arith) {i = length ds} {j = 6} le in
    omega (arith, lt, p)

-- up to eight decimals, filled up to eight, spell less than 10^8
pub eight_decimals : (fs : List ℕ) → list_all is_digit fs ≡ true → length fs ≤ 8 → value fs * 10 ^ (8 - length fs) < 10 ^ 8
eight_decimals fs h le = filled_lt fs (All-from_recursion (λ b. is_digit b ≡ true) fs (all_digit fs h)) le

-- a magnitude with a sign
signed_by : Bool → ℕ → ℤ
signed_by t m = cond t (neg_ℤ (pos m)) (pos m)

-- a run of these parts, and what follows it
pub prefix_is : (bytes ds fs rest : List ℕ) (v : ℤ) → without_sign bytes ≡ ds ++ 46 ∷ (fs ++ rest) → list_all is_digit ds ≡ true → list_all is_digit fs ≡ true → eqb (length ds + length fs) 0 ≡ false → length ds ≤ 6 → length fs ≤ 8
    → prefix_len is_number_char rest ≡ 0 → v ≡ signed_value bytes (value ds * 10 ^ 8 + value fs * 10 ^ (8 - length fs)) → IsPrefixDecimal v rest bytes
unfolding signed_by
prefix_is bytes ds fs rest v cut dd fd some dl fl ends is =
    let s = has_sign bytes in
    let body = ds ++ 46 ∷ fs in
    let run = s.0 ++ body in
    let u : without_sign run ≡ body = s.1.after body (unsigned_body ds fs dd) in
    let n : is_negative run ≡ is_negative bytes = s.1.negative body (positive_body ds fs dd) in
    let w : whole run ≡ ds = ap (before_first (λ b. eqb b 46)) u ∙ before_point ds fs (46 ∷ fs) dd (inl refl) in
    let f : fraction run ≡ fs = ap (after_first (λ b. eqb b 46)) u ∙ fraction_after_point ds fs (46 ∷ fs) dd (inl refl) in
    let coarse : fits_eight_decimals fs ≡ true = ap (list_all (λ b. eqb b 48)) (drop_all 8 fs fl) in
    let number : is_decimal run ≡ true = (λ i. (list_all is_digit (w i) && list_all is_digit (f i)) && not (eqb (length (w i) + length (f i)) 0)) ∙ and_true _ _ (and_true _ _ dd fd) (ap not some) in
    let low : ltb 999999 (value (whole run)) ≡ false = ap (λ xs. ltb 999999 (value xs)) w ∙ le-ltb _ _ (six_digits ds dd dl) in
    let units : value ds * 10 ^ 8 + value fs * 10 ^ (8 - length fs) ≡ to_units (value (ds ++ fs)) (length fs) = ap (λ xs. value ds * 10 ^ 8 + value xs * 10 ^ (8 - length xs)) (sym (take_all 8 fs fl)) ∙ sym (to_units_is ds fs coarse) in
    let same : v ≡ signed_value run (to_units (value_without_point run) (length (fraction run))) = is ∙ (λ i. signed_by (sym n i) (units i)) ∙ ap (signed_value run) (λ i. to_units (value (sym w i ++ sym f i)) (length (sym f i))) in
    record {
      run = run;
      whole = s.1.whole ∙ ap (λ (x : List ℕ). s.0 ++ x) (cut ∙ sym (append_assoc ds (46 ∷ fs) rest)) ∙ sym (append_assoc s.0 body rest);
      numbers = list_all-append is_number_char s.0 body ∙ and_true _ _ s.1.numbers (list_all-append is_number_char ds (46 ∷ fs) ∙ and_true _ _ (digits_numbers ds dd) (digits_numbers fs fd));
      ends = ends;
      point = any_after_point s.0 body (any_point ds fs);
      reads = sym (parse_decimal_ok run v number (ap fits_eight_decimals f ∙ coarse) low same);
      short = omega (arith, length-append s.0 body, length-append ds (46 ∷ fs), s.1.short, dl, fl);
    }
