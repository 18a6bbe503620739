-- The fields of a tool that are not read, as the grammar and as the rows say it.
use Rattle.drill_lines.proofs.Common.{◌≡◌, ℕ, ◌+◌, Bool, true, false, cond, ◌||◌, eqb, List, [], ◌∷◌, ◌++◌, refl, sym, ap, ◌∙◌, arith, codes, count_by, list_all, list_any, prefix_len, nat_tests, append-nil, is_digit, is_number_char, both_true, list_all_weaker, is_diameter_letter, is_tool_letter, is_skipped_letter, begins_with}
use Rattle.std.proofs.lemmas.List.Sums.{sum_by-cons}
use Rattle.grid_units.proofs.BoolLemmas.{or_is_false}
use Rattle.drill_lines.specs.Grammar.{AreSkipped}

-- a letter of a tool, or a number character
abbrev pub is_field_byte : ℕ → Bool
is_field_byte b = is_tool_letter b || is_number_char b

-- a letter that is not read, or a number character
abbrev pub is_skipped_byte : ℕ → Bool
is_skipped_byte b = is_skipped_letter b || is_number_char b

-- a letter that is not read is no digit and no number character
pub letter_no_digit : (b : ℕ) → is_skipped_letter b ≡ true → is_digit b ≡ false
letter_no_digit b h = grind (arith, nat_tests)

pub letter_no_number : (b : ℕ) → is_skipped_letter b ≡ true → is_number_char b ≡ false
letter_no_number b h = grind (arith, nat_tests)

-- the same test, as the grammar writes it
is_skipped_char : ℕ → Bool
is_skipped_char b = is_number_char b || list_any (λ letter. eqb b letter) (codes "FSBHZ")

same_test : (b : ℕ) → is_skipped_char b ≡ is_skipped_byte b
unfolding is_skipped_char
same_test b = by (is_number_char b) (eqb b 70) (eqb b 83) (eqb b 66) (eqb b 72) (eqb b 90)
  where
    either : (t u : Bool) → (t || u) ≡ (u || t)
    either true true = refl
    either true false = refl
    either false true = refl
    either false false = refl

    last : (t : Bool) → (t || false) ≡ t
    last true = refl
    last false = refl

    by : (n f s b h z : Bool) → (n || (f || (s || (b || (h || (z || false)))))) ≡ ((f || (s || (b || (h || z)))) || n)
    by n f s b h z = ap (λ t. n || (f || (s || (b || (h || t))))) (last z) ∙ either n (f || (s || (b || (h || z))))

-- fields that the rows skip are so written
pub skipped_written : (xs : List ℕ) → begins_with is_skipped_letter xs ≡ true → list_all is_skipped_byte xs ≡ true → AreSkipped xs
unfolding is_skipped_char
skipped_written [] h k = (refl, refl)
skipped_written (x ∷ xs) h k = (ap (λ t. t || false) (letter_no_number x h), list_all_weaker is_skipped_byte is_skipped_char (λ b e. same_test b ∙ e) (x ∷ xs) k)

-- what follows a run is so written where it holds no other letters
pub rest_written : (xs : List ℕ) → prefix_len is_number_char xs ≡ 0 → list_all is_skipped_byte xs ≡ true → AreSkipped xs
unfolding is_skipped_char
rest_written [] h k = (refl, refl)
rest_written (x ∷ xs) h k = (ap (λ t. t || false) (by (is_number_char x) h), list_all_weaker is_skipped_byte is_skipped_char (λ b e. same_test b ∙ e) (x ∷ xs) k)
  where
    by : (t : Bool) → cond t (1 + prefix_len is_number_char xs) 0 ≡ 0 → t ≡ false
    by true e = absurd (omega (arith, e))
    by false e = refl

pub written_bytes : (xs : List ℕ) → AreSkipped xs → list_all is_skipped_byte xs ≡ true
unfolding is_skipped_char
written_bytes xs h = list_all_weaker is_skipped_char is_skipped_byte (λ b e. sym (same_test b) ∙ e) xs h.1

pub written_begins : (xs : List ℕ) → AreSkipped xs → begins_with is_skipped_letter xs ≡ true
written_begins [] h = refl
written_begins (x ∷ xs) h = by (is_skipped_letter x) (is_number_char x) (or_is_false (is_number_char x) false h.0).0 (both_true (is_skipped_byte x) (list_all is_skipped_byte xs) (written_bytes (x ∷ xs) h)).0
  where
    by : (t n : Bool) → n ≡ false → (t || n) ≡ true → t ≡ true
    by true n e k = refl
    by false n e k = absurd (let m : false ≡ true = sym e ∙ k in cc)

-- fields do not go on with the run before them
pub fields_end : (p : ℕ → Bool) (fields rest : List ℕ) → ((b : ℕ) → is_skipped_letter b ≡ true → p b ≡ false) → AreSkipped fields → prefix_len p rest ≡ 0 → prefix_len p (fields ++ rest) ≡ 0
fields_end p [] rest none h k = k
fields_end p (b ∷ bs) rest none h k = ap (λ t. cond t (1 + prefix_len p (bs ++ rest)) 0) (none b (written_begins (b ∷ bs) h))

pub last_fields_end : (p : ℕ → Bool) (fields : List ℕ) → ((b : ℕ) → is_skipped_letter b ≡ true → p b ≡ false) → AreSkipped fields → prefix_len p fields ≡ 0
last_fields_end p fields none h = ap (prefix_len p) (sym (append-nil fields)) ∙ fields_end p fields [] none h refl

-- how many `C` there are
pub count_more : (x : ℕ) (xs : List ℕ) (t : Bool) → is_diameter_letter x ≡ t → count_by is_diameter_letter (x ∷ xs) ≡ cond t 1 0 + count_by is_diameter_letter xs
count_more x xs t e = sum_by-cons (λ b. cond (is_diameter_letter b) 1 0) x xs ∙ ap (λ u. cond u 1 0 + count_by is_diameter_letter xs) e
