-- What holds of each row of a table holds of the first that fits.
use Rattle.drill_lines.proofs.Common.{◌≡◌, ℕ, Bool, true, false, cond, List, [], ◌∷◌, ◌++◌, length, take, Option, None, Some, Result, Ok, Err, IfOk, refl, subst, AllByRecursion, option_map, bytes_eq, Reason, ◌>>=◌, RowOf, first_match_or, strip_prefix, literal_row}
use Rattle.grid_units.specs.Rows.{prefix_row}
use Rattle.drill_lines.proofs.CutLemmas.{bytes_are, begins_so}

-- what a row says has this property, if the row fits
abbrev pub RowHas : {A : Type 0} → (Result A Reason → Type 0) → RowOf A → Type 0
RowHas P None = Unit {0}
RowHas P (Some meaning) = P meaning

pub first_match_has : {A : Type 0} (P : Result A Reason → Type 0) (reason : Reason) (rows : List (RowOf A)) → P (Err reason) → AllByRecursion (RowHas P) rows → P (first_match_or reason rows)
first_match_has P reason [] none h = none
first_match_has P reason (None ∷ rows) none h = first_match_has P reason rows none h.1
first_match_has P reason (Some meaning ∷ rows) none h = h.0

row_if : {A : Type 0} (P : Result A Reason → Type 0) (t : Bool) (meaning : Result A Reason) (row : RowOf A) → P meaning → RowHas P row → RowHas P (cond t (Some meaning) row)
row_if P true meaning row h k = h
row_if P false meaning row h k = k

pub just_has : {A : Type 0} (P : Result A Reason → Type 0) (forms : List (List ℕ × Result A Reason)) (text : List ℕ) → AllByRecursion (λ form. P form.1) forms → RowHas P (literal_row forms text)
just_has P [] text h = tt
just_has P (form ∷ forms) text h = row_if P (bytes_eq text form.0) form.1 (literal_row forms text) h.0 (just_has P forms text h.1)

pub beginning_has : {A : Type 0} (P : Result A Reason → Type 0) (forms : List (List ℕ × Result A Reason)) (text : List ℕ) → AllByRecursion (λ form. P form.1) forms → RowHas P (prefix_row forms text)
beginning_has P [] text h = tt
beginning_has P (form ∷ forms) text h = row_if P (bytes_eq (take (length form.0) text) form.0) form.1 (prefix_row forms text) h.0 (beginning_has P forms text h.1)

pub prefix_has : {A : Type 0} (P : Result A Reason → Type 0) (prefix : List ℕ) (read : List ℕ → Result A Reason) (text : List ℕ) → ((rest : List ℕ) → P (read rest)) → RowHas P (option_map read (strip_prefix prefix text))
prefix_has P prefix read text h = by (strip_prefix prefix text)
  where
    by : (rest : Option (List ℕ)) → RowHas P (option_map read rest)
    by None = tt
    by (Some rest) = h rest

-- ---- rows that fit just these texts

test_has : {A : Type 0} (P : Result A Reason → Type 0) (text form : List ℕ) (t : Bool) (meaning : Result A Reason) (row : RowOf A) → bytes_eq text form ≡ t → (text ≡ form → P meaning) → RowHas P row → RowHas P (cond t (Some meaning) row)
test_has P text form true meaning row e h k = h (bytes_are text form e)
test_has P text form false meaning row e h k = k

-- a text that fits one of these literals is that literal
pub literal_has : {A : Type 0} (P : Result A Reason → Type 0) (forms : List (List ℕ × Result A Reason)) (text : List ℕ) → AllByRecursion (λ form. text ≡ form.0 → P form.1) forms → RowHas P (literal_row forms text)
literal_has P [] text h = tt
literal_has P (form ∷ forms) text h = test_has P text form.0 (bytes_eq text form.0) form.1 (literal_row forms text) refl h.0 (literal_has P forms text h.1)

-- a text that has this beginning is it and the rest that is read
pub stripped_has : {A : Type 0} (P : Result A Reason → Type 0) (prefix : List ℕ) (read : List ℕ → Result A Reason) (text : List ℕ) → ((rest : List ℕ) → text ≡ prefix ++ rest → P (read rest)) → RowHas P (option_map read (strip_prefix prefix text))
stripped_has P prefix read text h = by (strip_prefix prefix text) refl
  where
    by : (rest : Option (List ℕ)) → strip_prefix prefix text ≡ rest → RowHas P (option_map read rest)
    by None e = tt
    by (Some rest) e = h rest (begins_so prefix text rest e)

-- ---- answers

pub either_has : {A : Type 0} (P : A → Type 0) (t : Bool) (a b : A) → (t ≡ true → P a) → (t ≡ false → P b) → P (cond t a b)
either_has P true a b h k = h refl
either_has P false a b h k = k refl

pub ok_if : {A : Type 0} (P : A → Type 0) (t : Bool) (r : Result A Reason) (reason : Reason) → (t ≡ true → IfOk r P) → IfOk (cond t r (Err reason)) P
ok_if P true r reason h = h refl
ok_if P false r reason h = tt

pub ok_bind : {A B : Type 0} (P : B → Type 0) (r : Result A Reason) (f : A → Result B Reason) → ((x : A) → r ≡ Ok x → IfOk (f x) P) → IfOk (r >>= f) P
ok_bind P (Ok x) f h = h x refl
ok_bind P (Err reason) f h = tt

pub ok_is : {A : Type 0} (P : A → Type 0) (r : Result A Reason) (x : A) → IfOk r P → r ≡ Ok x → P x
ok_is P (Ok y) x h e = let same : y ≡ x = cc in subst P same h
ok_is P (Err reason) x h e = absurd cc
