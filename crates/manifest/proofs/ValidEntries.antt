-- The record of a proposal that is decided breaks no rule of a manifest, and names its file.
use Rattle.manifest.proofs.Common.{◌≡◌, ◌∙◌, ◌<◌, ◌≤◌, ◌^◌, ◌&&◌, ◌||◌, ◌==◌, ℕ, zero, suc, Bool, true, false, not, List, [], ◌∷◌, length, codes, Option, Some, None, unwrap_or, arith, refl, sym, ap, nat_lt, nat_le, decimal, if◌then◌else◌, list_all, list_any, is_utf8, IsAscii, false≢true, ne_eqb, leb-true, ltb-true, le-leb, nat_tests, IsUtf8-from_ascii, is_utf8-from_IsUtf8, is_digit, is_digits, value, Reason, BadManifest, BadRole, BadSpan, EmptyName, RepeatedName, CsvRecord, are_empty, are_span_numbers, first_broken_rule, format_of_fields, entry_of, field, is_bad_span, is_control, is_layer_number, is_role_in, is_wide_alone, is_plain_text, is_well_formed, may_say, role_of_word, span_of_fields, Profile, Strict, Wide, Entry, LayerRange, ProposedRole, Copper, Plated, Unplated, Mixed, Undecided, LeftOut, role_word, span_fields, layers_of_role, as_span, is_decided, is_valid_name, role_of, and_true, both_true}
use Rattle.std.proofs.Common.{is_some}
use Rattle.std.proofs.lemmas.Fmt.{length-decimal-le}
use Rattle.std.proofs.lemmas.Str.Ascii.{IsAscii-nil}
use Rattle.grid_units.specs.Spans.{LayerSpan}
use Rattle.grid_units.proofs.SpellingsLemmas.{spells_decimal}
use Rattle.manifest.proofs.EntryFields.{beyond, empty_plain, well_formed}
use Rattle.manifest.specs.Manifest.{is_copper_role}
use Rattle.manifest.specs.declared.Role.{Role}
use Rattle.manifest.specs.declared.Role.TheVariants as roles

-- ---- plain texts

-- a byte that is printed
abbrev visible : ℕ → Bool
visible b = nat_le 32 b && nat_lt b 127

below : (b : ℕ) → visible b ≡ true → (32 ≤ b) × (b < 127)
below b h = let k = both_true (nat_le 32 b) (nat_lt b 127) h in (leb-true 32 b k.0, ltb-true b 127 k.1)

ascii : (bs : List ℕ) → list_all visible bs ≡ true → IsAscii bs
ascii [] h i = IsAscii-nil i
ascii (b ∷ bs) h zero = let k = below b (both_true (visible b) (list_all visible bs) h).0 in let lt : b < 127 = k.1 in omega (arith, lt)
ascii (b ∷ bs) h (suc i) = ascii bs (both_true (visible b) (list_all visible bs) h).1 i

no_control : (b : ℕ) → visible b ≡ true → is_control b ≡ false
no_control b h =
    let k = below b h in
    let high : 32 ≤ b = k.0 in
    let low : b < 127 = k.1 in
    let f : nat_lt b 32 ≡ false = grind (arith, nat_tests) in
    let n : (b == 127) ≡ false = grind (arith, nat_tests) in
    rw (f, n) refl

none_controls : (bs : List ℕ) → list_all visible bs ≡ true → list_any is_control bs ≡ false
none_controls [] h = refl
none_controls (b ∷ bs) h =
    let k = both_true (visible b) (list_all visible bs) h in
    λ i. (no_control b k.0 i || none_controls bs k.1 i)

plain : (bs : List ℕ) → list_all visible bs ≡ true → is_plain_text bs ≡ true
plain bs h =
    and_true (is_utf8 bs) (not (list_any is_control bs)) (is_utf8-from_IsUtf8 bs (IsUtf8-from_ascii bs (ascii bs h))) (ap not (none_controls bs h))

digit_visible : (b : ℕ) → is_digit b ≡ true → visible b ≡ true
digit_visible b h = grind (arith, nat_tests)

digits_visible : (bs : List ℕ) → list_all is_digit bs ≡ true → list_all visible bs ≡ true
digits_visible [] h = refl
digits_visible (b ∷ bs) h =
    let k = both_true (is_digit b) (list_all is_digit bs) h in
    and_true (visible b) (list_all visible bs) (digit_visible b k.0) (digits_visible bs k.1)

-- ---- numbers of layers

module _ (n : ℕ) (low : n ≤ 999999999) where
  small : n < 2 ^ 64
  small = omega arith

  pub number_plain : is_plain_text (decimal n) ≡ true
  number_plain = plain (decimal n) (digits_visible (decimal n) (spells_decimal n small).digits)

  pub number_value : value (decimal n) ≡ n
  number_value = (spells_decimal n small).value

  pub number_some : (length (decimal n) == 0) ≡ false
  number_some = let some : 0 < length (decimal n) = (spells_decimal n small).some in ne_eqb (length (decimal n)) 0 (λ z. omega (arith, z, some))

  pub number_is : is_layer_number (decimal n) ≡ true
  number_is =
      let nine : length (decimal n) ≤ 9 = length-decimal-le 9 n (omega arith) (omega arith) small in
      and_true (is_digits (decimal n)) (nat_le (length (decimal n)) 9)
      (and_true (not (length (decimal n) == 0)) (list_all is_digit (decimal n)) (ap not number_some) (spells_decimal n small).digits)
      (le-leb (length (decimal n)) 9 nine)

-- layers that a manifest can name
abbrev pub CanBeNamed : Option LayerRange → Type 0
CanBeNamed None = Unit {0}
CanBeNamed (Some layers) = (1 ≤ layers.first) × (layers.first ≤ layers.last) × (layers.last ≤ 999999999)

numbers_are : (layers : LayerRange) → CanBeNamed (Some layers) → are_span_numbers (decimal layers.first) (decimal layers.last) ≡ true
numbers_are layers h =
    let one : 1 ≤ layers.first = h.0 in
    let order : layers.first ≤ layers.last = h.1 in
    let most : layers.last ≤ 999999999 = h.2 in
    let first = number_value layers.first (omega arith) in
    let last = number_value layers.last most in
    and_true (is_layer_number (decimal layers.first) && is_layer_number (decimal layers.last)) (nat_le 1 (value (decimal layers.first)) && nat_le (value (decimal layers.first)) (value (decimal layers.last)))
    (and_true (is_layer_number (decimal layers.first)) (is_layer_number (decimal layers.last)) (number_is layers.first (omega arith)) (number_is layers.last most))
    (and_true (nat_le 1 (value (decimal layers.first))) (nat_le (value (decimal layers.first)) (value (decimal layers.last)))
    (ap (λ n. nat_le 1 n) first ∙ le-leb 1 layers.first one) ((λ i. nat_le (first i) (last i)) ∙ le-leb layers.first layers.last order))

span_is : (layers : LayerRange) → CanBeNamed (Some layers) → span_of_fields (decimal layers.first) (decimal layers.last) ≡ as_span (Some layers)
span_is layers h =
    let order : layers.first ≤ layers.last = h.1 in
    let most : layers.last ≤ 999999999 = h.2 in
    let some = number_some layers.first (omega arith) in
    let first = number_value layers.first (omega arith) in
    let last = number_value layers.last most in
    let span : ℕ → ℕ → LayerSpan = λ a b. record { first = a; last = b } in
    (λ i. if (some i && (length (decimal layers.last) == 0)) then None else Some (span (value (decimal layers.first)) (value (decimal layers.last)))) ∙ (λ i. Some (span (first i) (last i)))

-- ---- one record

-- how many fields a record has
abbrev pub width : Bool → ℕ
width spans = if spans then 5 else 3

-- the record of a file of this role, with its layers or without
abbrev pub fields_of : Bool → ProposedRole → List ℕ → List ℕ → CsvRecord
fields_of spans role name file = role_word role ∷ name ∷ file ∷ (if spans then span_fields (layers_of_role role) else [])

abbrev no_reason : Option Reason
no_reason = None

none_broken : (w r e s : Bool) → w ≡ true → r ≡ true → e ≡ false → s ≡ false
    → (if not w then Some BadManifest else (if not r then Some BadRole else (if e then Some EmptyName else (if false then Some RepeatedName else (if s then Some BadSpan else None))))) ≡ no_reason
none_broken w r e s hw hr he hs = rw (hw, hr, he, hs) refl

neither : (a b : Bool) → not a ≡ true → not b ≡ true → (a || b) ≡ false
neither true b h k = absurd (false≢true h)
neither false true h k = absurd (false≢true k)
neither false false h k = refl

lawful : (profile : Profile) (n : ℕ) (row : CsvRecord) → length row ≡ n → n ≤ 5 → is_plain_text (field 0 row) ≡ true → is_valid_name (field 1 row) ≡ true → is_valid_name (field 2 row) ≡ true → is_plain_text (field 3 row) ≡ true
    → is_plain_text (field 4 row) ≡ true → (is_some (role_of_word (field 0 row)) && is_role_in profile (entry_of row).role) ≡ true → is_bad_span (entry_of row).role (field 3 row) (field 4 row) ≡ false → first_broken_rule profile n false row ≡ None
unfolding may_say
lawful profile n row len five word name file first last role span =
    let a = both_true (is_plain_text (field 1 row)) (not (length (field 1 row) == 0)) name in
    let b = both_true (is_plain_text (field 2 row)) (not (length (field 2 row) == 0)) file in
    none_broken (is_well_formed n row) (is_some (role_of_word (field 0 row)) && is_role_in profile (entry_of row).role) ((length (field 1 row) == 0) || (length (field 2 row) == 0)) (is_bad_span (entry_of row).role (field 3 row) (field 4 row))
    (well_formed row n len (omega (arith, five)) word a.0 b.0 first last (plainly 5 five) (plainly 6 (omega (arith, five))) (plainly 7 (omega (arith, five)))
    (rw (beyond row 5 (omega (arith, len, five)), beyond row 6 (omega (arith, len, five)), beyond row 7 (omega (arith, len, five))) refl)) role (neither (length (field 1 row) == 0) (length (field 2 row) == 0) a.1 b.1) span
  where
    plainly : (k : ℕ) → n ≤ k → is_plain_text (field k row) ≡ true
    plainly k le = ap is_plain_text (beyond row k (omega (arith, len, le))) ∙ empty_plain

not_bad : (a n : Bool) → n ≡ true → (a && (false || not n)) ≡ false
not_bad true n e = ap not e
not_bad false n e = refl

-- a role of the strict profile is one of each
old_role : (profile : Profile) (role : Role) → is_wide_alone role ≡ false → is_role_in profile role ≡ true
old_role Strict role e = ap not e
old_role Wide role e = refl

module _ (name file : List ℕ) (is_listed_role : is_valid_name name ≡ true) (loads : is_valid_name file ≡ true) where
  -- a drill file's record
  drill : (profile : Profile) (spans : Bool) (word : List ℕ) (span : Option LayerRange) → is_plain_text word ≡ true → (is_some (role_of_word word) && is_role_in profile (unwrap_or (role_of_word word) roles.Copper)) ≡ true → is_copper_role (unwrap_or (role_of_word word) roles.Copper) ≡ false → CanBeNamed span
      → first_broken_rule profile (width spans) false (word ∷ name ∷ file ∷ (if spans then span_fields span else [])) ≡ None
  drill profile false word span w r l h = lawful profile 3 (word ∷ name ∷ file ∷ []) refl (omega arith) w is_listed_role loads empty_plain empty_plain r refl
  drill profile true word None w r l h = lawful profile 5 (word ∷ name ∷ file ∷ [] ∷ [] ∷ []) refl (omega arith) w is_listed_role loads empty_plain empty_plain r refl
  drill profile true word (Some layers) w r l h =
      let order : layers.first ≤ layers.last = h.1 in
      let most : layers.last ≤ 999999999 = h.2 in
      let a = decimal layers.first in
      let b = decimal layers.last in
      let fine : is_bad_span (unwrap_or (role_of_word word) roles.Copper) a b ≡ false =
      ap (λ (t : Bool). not (are_empty a b) && (t || not (are_span_numbers a b))) l ∙ not_bad (not (are_empty a b)) (are_span_numbers a b) (numbers_are layers h) in
      lawful profile 5 (word ∷ name ∷ file ∷ a ∷ b ∷ []) refl (omega arith) w is_listed_role loads (number_plain layers.first (omega arith)) (number_plain layers.last most) r fine

  -- the record breaks no rule
  pub no_rule_broken : (profile : Profile) (spans : Bool) (role : ProposedRole) → is_decided profile role ≡ true → CanBeNamed (layers_of_role role) → first_broken_rule profile (width spans) false (fields_of spans role name file) ≡ None
  no_rule_broken profile false (Copper place) d h = lawful profile 3 (codes "copper" ∷ name ∷ file ∷ []) refl (omega arith) (plain (codes "copper") refl) is_listed_role loads empty_plain empty_plain (old_role profile roles.Copper refl) refl
  no_rule_broken profile true (Copper place) d h = lawful profile 5 (codes "copper" ∷ name ∷ file ∷ [] ∷ [] ∷ []) refl (omega arith) (plain (codes "copper") refl) is_listed_role loads empty_plain empty_plain (old_role profile roles.Copper refl) refl
  no_rule_broken profile spans (Plated span) d h = drill profile spans (codes "plated") span (plain (codes "plated") refl) (old_role profile roles.Plated refl) refl h
  no_rule_broken profile spans (Unplated span) d h = drill profile spans (codes "unplated") span (plain (codes "unplated") refl) (old_role profile roles.Unplated refl) refl h
  no_rule_broken Strict spans (Mixed span) d h = absurd (false≢true d)
  no_rule_broken Wide spans (Mixed span) d h = drill Wide spans (codes "mixed") span (plain (codes "mixed") refl) refl refl h
  no_rule_broken profile spans Undecided d h = absurd (false≢true d)
  no_rule_broken profile spans LeftOut d h = absurd (false≢true d)

abbrev file_as : Role → List ℕ → List ℕ → Option LayerSpan → Entry
file_as role name file span = record { role = role; name = name; file = file; said = record { span = span; format = None } }

-- the file that the record names
pub entry_is : (profile : Profile) (name file : List ℕ) (spans : Bool) (role : ProposedRole) → is_decided profile role ≡ true → CanBeNamed (layers_of_role role)
    → record { role = role_of role; name = name; file = file; said = record { span = if spans then as_span (layers_of_role role) else None; format = None } } ≡ entry_of (fields_of spans role name file)
unfolding format_of_fields
entry_is profile name file false (Copper place) d h = refl
entry_is profile name file true (Copper place) d h = refl
entry_is profile name file false (Plated span) d h = refl
entry_is profile name file true (Plated None) d h = refl
entry_is profile name file true (Plated (Some layers)) d h = ap (file_as roles.Plated name file) (sym (span_is layers h))
entry_is profile name file false (Unplated span) d h = refl
entry_is profile name file true (Unplated None) d h = refl
entry_is profile name file true (Unplated (Some layers)) d h = ap (file_as roles.Unplated name file) (sym (span_is layers h))
entry_is profile name file false (Mixed span) d h = refl
entry_is profile name file true (Mixed None) d h = refl
entry_is profile name file true (Mixed (Some layers)) d h = ap (file_as roles.Mixed name file) (sym (span_is layers h))
entry_is profile name file spans Undecided d h = absurd (false≢true d)
entry_is profile name file spans LeftOut d h = absurd (false≢true d)
