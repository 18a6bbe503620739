-- Fields that need no quotes.
use Rattle.ringcheck_files.proofs.Common.{◌≡◌, ◌<◌, ◌≤◌, ◌+◌, ◌/◌, ◌%◌, ◌^◌, ◌++◌, ℕ, zero, suc, ℤ, pos, negsuc, unsigned_abs, false, List, [], ◌∷◌, length, arith, rules, refl, append_assoc, decimal, flat_map, decimal_by_steps, millimetres, minus, places, NeedNoQuotes, NeedsNoQuotes, row}
use Rattle.std.proofs.lemmas.List.Folds.{list_any-append}
use Rattle.csv.specs.Writing.{default_writer, needs_byte, fields_text, field_text, row_text, is_blank}

-- a digit, a point or a minus
pub byte_plain : (b : ℕ) → 45 ≤ b → needs_byte default_writer b ≡ false
byte_plain b h = search (rules, arith)

pub append_plain : (a b : List ℕ) → NeedsNoQuotes a → NeedsNoQuotes b → NeedsNoQuotes (a ++ b)
append_plain a b h k = search (rules, list_any-append)

pub one_plain : (b : ℕ) → 45 ≤ b → NeedsNoQuotes (b ∷ [])
one_plain b h = rw (byte_plain b h) refl

pub decimal_plain : (n : ℕ) → n < 2 ^ 64 → NeedsNoQuotes (decimal n)
decimal_plain n h = decimal_by_steps (λ m ds. NeedsNoQuotes ds) (λ m k. one_plain (48 + m) (omega arith)) (λ m ds k was. append_plain ds ((48 + m % 10) ∷ []) was (one_plain (48 + m % 10) (omega arith))) n h

pub places_plain : (w n : ℕ) → NeedsNoQuotes (places w n)
unfolding places
places_plain zero n = refl
places_plain (suc w) n = append_plain (places w (n / 10)) ((48 + n % 10) ∷ []) (places_plain w (n / 10)) (one_plain (48 + n % 10) (omega arith))

pub minus_plain : (p : ℤ) → NeedsNoQuotes (minus p)
minus_plain (pos n) = refl
minus_plain (negsuc n) = refl

-- a length in millimetres
pub millimetres_plain : (p : ℤ) → unsigned_abs p / 10 ^ 9 < 2 ^ 64 → NeedsNoQuotes (millimetres p)
unfolding millimetres
millimetres_plain p h =
    let n = unsigned_abs p in
    append_plain (minus p ++ decimal (n / 10 ^ 9)) (46 ∷ places 9 (n % 10 ^ 9)) (append_plain (minus p) (decimal (n / 10 ^ 9)) (minus_plain p) (decimal_plain (n / 10 ^ 9) h)) (append_plain (46 ∷ []) (places 9 (n % 10 ^ 9)) refl (places_plain 9 (n % 10 ^ 9)))

-- the text of a field that needs no quotes
pub field_is : (field : List ℕ) → NeedsNoQuotes field → field_text default_writer field ≡ field
field_is field h = rw h refl

pub fields_are : (fields : List (List ℕ)) → NeedNoQuotes fields → fields_text default_writer fields ≡ flat_map (λ next. 44 ∷ next) fields
unfolding fields_text
fields_are [] h = refl
fields_are (f ∷ fields) h = rw (field_is f h.0, fields_are fields h.1) refl

-- the text of a row of such fields
pub row_is : (fields : List (List ℕ)) → 2 ≤ length fields → NeedNoQuotes fields → row_text default_writer fields ≡ row fields
unfolding is_blank
row_is [] lt h = absurd (omega arith)
row_is (f ∷ []) lt h = absurd (omega arith)
row_is (f ∷ g ∷ fields) lt h = rw (field_is f h.0, fields_are (g ∷ fields) h.1) (append_assoc f (flat_map (λ next. 44 ∷ next) (g ∷ fields)) (10 ∷ []))

-- a field of just these bytes
pub same_plain : (field text : List ℕ) → field ≡ text → NeedsNoQuotes text → NeedsNoQuotes field
same_plain field text e h = rw e h

pub short_plain : (p : ℤ) → unsigned_abs p ≤ 10 ^ 13 → NeedsNoQuotes (millimetres p)
short_plain p h = millimetres_plain p (omega (arith, h))
