-- A record of at most eight fields.
use Rattle.manifest.proofs.Common.{◌≡◌, ◌∙◌, ◌&&◌, ◌≤◌, ◌<◌, ◌==◌, ◌⊎◌, ℕ, zero, suc, List, [], ◌∷◌, Bool, true, false, Some, None, length, arith, refl, ap, sym, inl, inr, list_all, bytes_eq, is_utf8, is_utf8-from_IsUtf8, false≢true, list_all_at, field_at, CsvRecord, field, is_plain_text, is_well_formed, may_say}

-- the empty text is plain
pub empty_plain : is_plain_text [] ≡ true
empty_plain = let text : is_utf8 [] ≡ true = is_utf8-from_IsUtf8 [] ([], (refl, refl)) in rw text refl

and_true : (b : Bool) → (b && true) ≡ b
and_true true = refl
and_true false = refl

-- the fields all pass where the eight places do, as a test passes the empty text
eight_fields : (p : List ℕ → Bool) (row : CsvRecord) → length row ≤ 8 → p [] ≡ true
    → list_all p row ≡ (p (field 0 row) && (p (field 1 row) && (p (field 2 row) && (p (field 3 row) && (p (field 4 row) && (p (field 5 row) && (p (field 6 row) && p (field 7 row))))))))
eight_fields p [] n e = rw e refl
eight_fields p (a ∷ []) n e = rw e refl
eight_fields p (a ∷ b ∷ []) n e = rw e refl
eight_fields p (a ∷ b ∷ c ∷ []) n e = rw e refl
eight_fields p (a ∷ b ∷ c ∷ d ∷ []) n e = rw e refl
eight_fields p (a ∷ b ∷ c ∷ d ∷ f ∷ []) n e = rw e refl
eight_fields p (a ∷ b ∷ c ∷ d ∷ f ∷ g ∷ []) n e = rw e refl
eight_fields p (a ∷ b ∷ c ∷ d ∷ f ∷ g ∷ h ∷ []) n e = rw e refl
eight_fields p (a ∷ b ∷ c ∷ d ∷ f ∷ g ∷ h ∷ k ∷ []) n e = rw (and_true (p k)) refl
eight_fields p (a ∷ b ∷ c ∷ d ∷ f ∷ g ∷ h ∷ k ∷ l ∷ rest) n e = absurd (omega arith)

same_length : (row : CsvRecord) (width : ℕ) → length row ≡ width → (length row == width) ≡ true
same_length row width n = rw n (grind arith)

-- eight plain fields are a record, as far as it has them, if the last three may stand
pub well_formed : (row : CsvRecord) (width : ℕ) → length row ≡ width → width ≤ 8 → is_plain_text (field 0 row) ≡ true → is_plain_text (field 1 row) ≡ true
    → is_plain_text (field 2 row) ≡ true → is_plain_text (field 3 row) ≡ true → is_plain_text (field 4 row) ≡ true → is_plain_text (field 5 row) ≡ true → is_plain_text (field 6 row) ≡ true → is_plain_text (field 7 row) ≡ true
    → may_say (field 0 row) (field 5 row) (field 6 row) (field 7 row) ≡ true → is_well_formed width row ≡ true
well_formed row width n eight a b c d e f g h says =
    let all : list_all is_plain_text row ≡ true = eight_fields is_plain_text row (omega arith) empty_plain ∙ rw (a, b, c, d, e, f, g, h) refl in
    rw (same_length row width n, all, says) refl

either_index : (row : CsvRecord) (k : ℕ) → (k < length row) ⊎ (field k row ≡ [])
either_index [] k = inr refl
either_index (x ∷ rest) zero = inl (omega arith)
either_index (x ∷ rest) (suc k) = elim (either_index rest k) [ inl lt ↦ inl (omega arith) | inr e ↦ inr e ]

-- a place behind all fields has the empty one
pub beyond : (row : CsvRecord) (k : ℕ) → length row ≤ k → field k row ≡ []
beyond [] k n = refl
beyond (x ∷ rest) zero n = absurd (omega arith)
beyond (x ∷ rest) (suc k) n = beyond rest k (omega arith)

and_false_second : (x y : Bool) → y ≡ false → (x && y) ≡ false
and_false_second true y e = e
and_false_second false y e = refl

-- a record whose last fields may not stand is none
pub may_not_say : (row : CsvRecord) (width : ℕ) → may_say (field 0 row) (field 5 row) (field 6 row) (field 7 row) ≡ false → is_well_formed width row ≡ false
may_not_say row width wrong = and_false_second (length row == width) _ (and_false_second (list_all is_plain_text row) _ wrong)

and_false_first : (x y : Bool) → x ≡ false → (x && y) ≡ false
and_false_first x y e = rw e refl

-- a field that is not plain is none of a record
pub ill_formed : (row : CsvRecord) (width k : ℕ) → is_plain_text (field k row) ≡ false → is_well_formed width row ≡ false
ill_formed row width k wrong = elim (either_index row k) [
  | inl lt ↦ and_false_second (length row == width) _ (and_false_first (list_all is_plain_text row) _ (list_all_at is_plain_text row k [] lt wrong))
  | inr e ↦ let plain : is_plain_text (field k row) ≡ true = ap is_plain_text e ∙ empty_plain in absurd (false≢true (sym wrong ∙ plain))
]

-- the field at a place, as the definitions name it
pub field_is : (row : CsvRecord) (k : ℕ) (f : List ℕ) → Some f ≡ field_at row k → f ≡ field k row
unfolding field_at
field_is [] k f e = cc
field_is (x ∷ rest) zero f e = cc
field_is (x ∷ rest) (suc k) f e = field_is rest k f e

-- a place without a field has the empty one
pub no_field : (row : CsvRecord) (k : ℕ) → None ≡ field_at row k → field k row ≡ []
unfolding field_at
no_field [] k e = refl
no_field (x ∷ rest) zero e = cc
no_field (x ∷ rest) (suc k) e = no_field rest k e

-- the empty text is no other one
pub empty_differs : (text : List ℕ) → 0 < length text → bytes_eq [] text ≡ false
empty_differs [] h = absurd (omega arith)
empty_differs (x ∷ rest) h = refl
