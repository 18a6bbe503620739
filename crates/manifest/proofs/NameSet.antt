-- The names of the files before a record, kept in a set.
use Rattle.manifest.proofs.Common.{◌≡◌, ◌∙◌, ◌++◌, ◌||◌, ℕ, List, [], ◌∷◌, Bool, true, false, cond, not, map, ap, sym, refl, list_any, bytes_eq, is_eq, nat_cmp, slice_cmp, map-append, is_eq-slice_cmp, Entry, CsvRecord, entry_of, field, is_repeated, not_not}

any_more : (p : Entry → Bool) (xs : List Entry) (x : Entry) → list_any p (xs ++ x ∷ []) ≡ cond (p x) true (list_any p xs)
any_more p [] x = by (p x)
  where
    by : (b : Bool) → (b || false) ≡ cond b true false
    by true = refl
    by false = refl
any_more p (y ∷ ys) x = by (p y) (p x) (list_any p (ys ++ x ∷ [])) (list_any p ys) (any_more p ys x)
  where
    by : (a b c d : Bool) → c ≡ cond b true d → (a || c) ≡ cond b true (a || d)
    by true true c d e = refl
    by true false c d e = refl
    by false b c d e = e

-- a name is one of the files before a record and of the record's, as a set has it once the record's name is in it
pub set_has_more : (before after : List CsvRecord) (row : CsvRecord) (key name : List ℕ) (old new : Bool) → after ≡ before ++ row ∷ [] → key ≡ field 1 row
    → new ≡ cond (is_eq (slice_cmp nat_cmp key name)) true old → old ≡ is_repeated name (map entry_of before) → new ≡ is_repeated name (map entry_of after)
set_has_more before after row key name old new grown is e was =
    let all : map entry_of after ≡ map entry_of before ++ entry_of row ∷ [] = ap (map entry_of) grown ∙ map-append entry_of before (row ∷ []) in
    let same : is_eq (slice_cmp nat_cmp key name) ≡ bytes_eq (field 1 row) name = is_eq-slice_cmp key name ∙ ap (λ (k : List ℕ). bytes_eq k name) is in
    e ∙ rw (same, was) (sym (ap (is_repeated name) all ∙ any_more (λ entry. bytes_eq entry.name name) (map entry_of before) (entry_of row)))

-- a name that is not new to the set was there before
pub set_has : (name key : List ℕ) (earlier : List Entry) (had is_new : Bool) → key ≡ name → is_new ≡ not had → had ≡ is_repeated key earlier → not is_new ≡ is_repeated name earlier
set_has name key earlier had is_new same new was = ap not new ∙ (not_not had ∙ (was ∙ ap (λ (k : List ℕ). is_repeated k earlier) same))
