-- Fields as CSV: which stand between quotes, and what stands there.
use Rattle.waivers.proofs.Common.{◌≡◌, ◌≢◌, ◌∙◌, ◌<◌, ◌≤◌, ◌+◌, ◌*◌, ◌/◌, ◌%◌, ◌^◌, ◌++◌, ◌==◌, ◌||◌, ℕ, zero, suc, ℤ, pos, negsuc, unsigned_abs, Bool, true, false, cond, nat_lt, List, [], ◌∷◌, length, get_or, codes, arith, rules, refl, ap, sym, append-nil, append_assoc, ne_eqb, AllByRecursion, default_writer, escaped, field_text, fields_text, is_blank, needs_byte, needs_quotes, row_text, CsvRecord, finding_record, head_record, record_key, list_any-append}
use Rattle.std.specs.Fmt.{decimal, digit_glyph, digits, digits_onto}
use Rattle.grid_units.specs.Holes.{GridHole, is_round}
use Rattle.grid_units.specs.Points.{GridPoint}
use Rattle.grid_units.specs.Spellings.{fraction_text, minus, places, without_end_zeros}
use Rattle.grid_units.specs.LengthWords.{short_millimetres}
use Rattle.grid_units.specs.HoleWords.{drilled_words, ends_words, point_words, two_lengths}

-- ---- a text between quotes

-- each quote is doubled, or not, and the rest follows
doubled_append : (t : Bool) (b : ℕ) (xs ys : List ℕ) → cond t (34 ∷ b ∷ (xs ++ ys)) (b ∷ (xs ++ ys)) ≡ cond t (34 ∷ b ∷ xs) (b ∷ xs) ++ ys
doubled_append true b xs ys = refl
doubled_append false b xs ys = refl

pub escaped_append : (xs ys : List ℕ) → escaped default_writer (xs ++ ys) ≡ escaped default_writer xs ++ escaped default_writer ys
unfolding escaped
escaped_append [] ys = refl
escaped_append (a ∷ xs) ys = ap (λ (rest : List ℕ). cond (a == 34) (34 ∷ a ∷ rest) (a ∷ rest)) (escaped_append xs ys) ∙ doubled_append (a == 34) a (escaped default_writer xs) (escaped default_writer ys)

-- a text without a quote stays as it is
pub escaped_same : (ys : List ℕ) → ((i : ℕ) → i < length ys → get_or ys i 0 ≢ 34) → escaped default_writer ys ≡ ys
unfolding escaped
escaped_same [] h = refl
escaped_same (b ∷ ys) h = rw (ne_eqb b 34 (h 0 (omega arith))) (ap (λ (rest : List ℕ). b ∷ rest) (escaped_same ys (λ i lt. h (suc i) (omega arith))))

-- the text up to the first quote, and what stands after it
pub escaped_cut : (before after : List ℕ) → ((i : ℕ) → i < length before → get_or before i 0 ≢ 34) → escaped default_writer (before ++ 34 ∷ after) ≡ before ++ 34 ∷ 34 ∷ escaped default_writer after
unfolding escaped
escaped_cut before after h = escaped_append before (34 ∷ after) ∙ ap (λ (front : List ℕ). front ++ 34 ∷ 34 ∷ escaped default_writer after) (escaped_same before h)

-- what is written once a quote is found
pub escaped_more : (all done rest before after : List ℕ) → rest ≡ before ++ 34 ∷ after → ((i : ℕ) → i < length before → get_or before i 0 ≢ 34) → all ≡ done ++ escaped default_writer rest
    → all ≡ (done ++ (before ++ 34 ∷ 34 ∷ [])) ++ escaped default_writer after
escaped_more all done rest before after split h was =
    was ∙ (ap (λ (text : List ℕ). done ++ escaped default_writer text) split
    ∙ (ap (λ (text : List ℕ). done ++ text) (escaped_cut before after h ∙ sym (append_assoc before (34 ∷ 34 ∷ []) (escaped default_writer after)))
    ∙ sym (append_assoc done (before ++ 34 ∷ 34 ∷ []) (escaped default_writer after))))

-- ---- lengths

-- each byte comes after the comma and the quote, as a minus, a point and the digits do
abbrev IsHigh : List ℕ → Type 0
IsHigh ys = AllByRecursion (λ b. 45 ≤ b) ys

high_append : (xs ys : List ℕ) → IsHigh xs → IsHigh ys → IsHigh (xs ++ ys)
high_append [] ys h k = k
high_append (a ∷ xs) ys h k = (h.0, high_append xs ys h.1 k)

high_either : (t : Bool) (xs ys : List ℕ) → IsHigh xs → IsHigh ys → IsHigh (cond t xs ys)
high_either true xs ys h k = h
high_either false xs ys h k = k

digit_either : (t : Bool) (d : ℕ) → 45 ≤ cond t (48 + d) (87 + d)
digit_either true d = omega arith
digit_either false d = omega arith

digits_high : (k n : ℕ) (after : List ℕ) → IsHigh after → IsHigh (digits_onto k 10 false n after)
digits_high zero n after h = h
digits_high (suc k) n after h =
    let longer = digit_glyph false (n % 10) ∷ after in
    let high : IsHigh longer = (digit_either (nat_lt (n % 10) 10) (n % 10), h) in
    high_either (n / 10 == 0) longer (digits_onto k 10 false (n / 10) longer) high (digits_high k (n / 10) longer high)

decimal_high : (n : ℕ) → IsHigh (decimal n)
unfolding digits
decimal_high n = digits_high 64 n [] tt

places_high : (w n : ℕ) → IsHigh (places w n)
unfolding places
places_high zero n = tt
places_high (suc w) n = high_append (places w (n / 10)) ((48 + n % 10) ∷ []) (places_high w (n / 10)) (omega arith, tt)

trimmed_high : (ds : List ℕ) → IsHigh ds → IsHigh (without_end_zeros ds)
unfolding without_end_zeros
trimmed_high [] h = tt
trimmed_high (d ∷ ds) h = high_either _ [] (d ∷ without_end_zeros ds) tt (h.0, trimmed_high ds h.1)

point_high : (ds : List ℕ) → IsHigh ds → IsHigh (fraction_text ds)
point_high [] h = tt
point_high (d ∷ ds) h = (omega arith, h)

minus_high : (z : ℤ) → IsHigh (minus z)
minus_high (pos n) = tt
minus_high (negsuc n) = (omega arith, tt)

short_high : (z : ℤ) → IsHigh (short_millimetres z)
unfolding short_millimetres
short_high z =
    let n = unsigned_abs z in
    let whole = decimal (n / 10 ^ 9) in
    let rest = without_end_zeros (places 9 (n % 10 ^ 9)) in
    high_append (minus z ++ whole) (fraction_text rest) (high_append (minus z) whole (minus_high z) (decimal_high (n / 10 ^ 9))) (point_high rest (trimmed_high (places 9 (n % 10 ^ 9)) (places_high 9 (n % 10 ^ 9))))

plain_byte : (b : ℕ) → 45 ≤ b → needs_byte default_writer b ≡ false
plain_byte b h = search (rules, arith)

high_plain : (ys : List ℕ) → IsHigh ys → needs_quotes default_writer ys ≡ false
high_plain [] h = refl
high_plain (b ∷ ys) h = rw (plain_byte b h.0, high_plain ys h.1) refl

high_escaped : (ys : List ℕ) → IsHigh ys → escaped default_writer ys ≡ ys
unfolding escaped
high_escaped [] h = refl
high_escaped (b ∷ ys) h = rw (ne_eqb b 34 (λ e. omega (arith, h.0))) (ap (λ (rest : List ℕ). b ∷ rest) (high_escaped ys h.1))

-- a length is a field without quotes
pub length_field : (z : ℤ) → field_text default_writer (short_millimetres z) ≡ short_millimetres z
length_field z = rw (high_plain (short_millimetres z) (short_high z)) refl

-- ---- holes

abbrev IsSame : List ℕ → Type 0
IsSame ys = escaped default_writer ys ≡ ys

same_append : (xs ys : List ℕ) → IsSame xs → IsSame ys → IsSame (xs ++ ys)
same_append xs ys h k = escaped_append xs ys ∙ (λ i. h i ++ k i)

short_same : (z : ℤ) → IsSame (short_millimetres z)
short_same z = high_escaped (short_millimetres z) (short_high z)

point_same : (point : GridPoint) → IsSame (point_words point)
unfolding two_lengths escaped
point_same point = same_append (short_millimetres point.x) (codes "," ++ short_millimetres point.y) (short_same point.x) (same_append (codes ",") (short_millimetres point.y) refl (short_same point.y))

ends_same : (t : Bool) (from to : GridPoint) → IsSame (cond t (point_words from) (point_words from ++ (codes " to " ++ point_words to)))
unfolding escaped
ends_same true from to = point_same from
ends_same false from to = same_append (point_words from) (codes " to " ++ point_words to) (point_same from) (same_append (codes " to ") (point_words to) refl (point_same to))

drilled_same : (hole : GridHole) → IsSame (drilled_words hole)
unfolding drilled_words escaped
drilled_same hole =
    let ends = ends_words hole in
    same_append (short_millimetres (pos (2 * hole.radius))) (codes " at " ++ ends) (short_same (pos (2 * hole.radius))) (same_append (codes " at ") ends refl (ends_same (is_round hole) hole.from hole.to))

or_true : (t : Bool) → (t || true) ≡ true
or_true true = refl
or_true false = refl

needs_comma : (name rest : List ℕ) → needs_quotes default_writer (name ++ 44 ∷ rest) ≡ true
needs_comma name rest = list_any-append (needs_byte default_writer) name (44 ∷ rest) ∙ or_true (needs_quotes default_writer name)

-- the field of a hole stands between quotes, and only its name can have a quote
pub hole_quoted : (name : List ℕ) (hole : GridHole) → field_text default_writer (name ++ (codes ", " ++ drilled_words hole)) ≡ 34 ∷ (escaped default_writer name ++ (codes ", " ++ (drilled_words hole ++ 34 ∷ [])))
unfolding escaped
hole_quoted name hole =
    let rest = 32 ∷ drilled_words hole in
    rw (needs_comma name rest)
    (ap (λ (text : List ℕ). 34 ∷ (text ++ 34 ∷ [])) (escaped_append name (44 ∷ rest) ∙ ap (λ (text : List ℕ). escaped default_writer name ++ 44 ∷ 32 ∷ text) (drilled_same hole))
    ∙ ap (λ (text : List ℕ). 34 ∷ text) (append_assoc (escaped default_writer name) (44 ∷ rest) (34 ∷ [])))

-- ---- records

fields_joined : (field : List ℕ) (rest : CsvRecord) → fields_text default_writer (field ∷ rest) ≡ 44 ∷ record_key (field ∷ rest)
unfolding fields_text
fields_joined field [] = ap (λ (text : List ℕ). 44 ∷ text) (append-nil (field_text default_writer field))
fields_joined field (next ∷ rest) = ap (λ (text : List ℕ). 44 ∷ (field_text default_writer field ++ text)) (fields_joined next rest)

-- a record of two fields or more
pub row_joined : (row : CsvRecord) → 2 ≤ length row → row_text default_writer row ≡ record_key row ++ 10 ∷ []
unfolding is_blank
row_joined [] lt = absurd (omega arith)
row_joined (field ∷ []) lt = absurd (omega arith)
row_joined (field ∷ next ∷ rest) lt = ap (λ (text : List ℕ). (field_text default_writer field ++ text) ++ 10 ∷ []) (fields_joined next rest)

-- one more field, which is empty
joined_more : (field : List ℕ) (rest : CsvRecord) → record_key (field ∷ (rest ++ [] ∷ [])) ≡ record_key (field ∷ rest) ++ 44 ∷ []
joined_more field [] = refl
joined_more field (next ∷ rest) =
    ap (λ (text : List ℕ). field_text default_writer field ++ 44 ∷ text) (joined_more next rest)
    ∙ sym (append_assoc (field_text default_writer field) (44 ∷ record_key (next ∷ rest)) (44 ∷ []))

-- the record of a finding, with an empty reason at its end
pub record_joined : (row : CsvRecord) → 2 ≤ length row → finding_record row ≡ record_key row ++ 44 ∷ 10 ∷ []
record_joined [] lt = absurd (omega arith)
record_joined (field ∷ []) lt = absurd (omega arith)
record_joined (field ∷ next ∷ rest) lt =
    row_joined (field ∷ next ∷ (rest ++ [] ∷ [])) (omega arith)
    ∙ (ap (λ (text : List ℕ). text ++ 10 ∷ []) (joined_more field (next ∷ rest)) ∙ append_assoc (record_key (field ∷ next ∷ rest)) (44 ∷ []) (10 ∷ []))

pub head_is : codes "kind,layer,hole,and,has,why\n" ≡ head_record
unfolding fields_text is_blank
head_is = refl
