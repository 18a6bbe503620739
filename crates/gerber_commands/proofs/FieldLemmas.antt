-- The fields of an operation are read back from what is written of them.
use Rattle.gerber_commands.proofs.Common.{◌≡◌, ℕ, ◌+◌, Bool, true, false, cond, not, ◌||◌, ◌&&◌, eqb, leb, ltb, List, [], ◌∷◌, ◌++◌, length, drop, Option, Some, None, Result, Ok, Err, refl, sym, ap, ◌∙◌, codes, take_while, list_any, list_all, prefix_len, eqb-true, false≢true, Reason, BadNumber, TooManyDigits, is_digit, is_digits, is_number_char, value, without_sign, signed_value, ◌>>=◌, significant_digits, Fields, NamesInt, and_true, both_true, not_true, take_while_append, drop_run_append, take_while_all, drop_run_all, digits_numbers}
use Rattle.std.proofs.Common.{ℤ}
use Rattle.std.specs.Prelude.{unwrap_or}
use Rattle.std.proofs.lemmas.List.Folds.{list_any-append}
use Rattle.gerber_commands.specs.Numbers.{int_of, nat_of}
use Rattle.gerber_commands.specs.Rows.{field as split_field}
use Rattle.gerber_commands.specs.Words.{fields, coordinate}
use Rattle.gerber_commands.specs.WordGrammar.{field}
use Rattle.gerber_commands.proofs.NumberRuns.{sign_number}

-- ---- the bytes of numbers

-- what a test let through
let_through : {A : Type 0} (t : Bool) (r : Result A Reason) (y : A) (e : Reason) → cond t r (Err e) ≡ Ok y → t ≡ true
let_through true r y e h = refl
let_through false r y e h = absurd cc

signed_numbers : (run : List ℕ) → list_all is_digit (without_sign run) ≡ true → list_all is_number_char run ≡ true
signed_numbers [] h = refl
signed_numbers (b ∷ bs) h = by (eqb b 43 || eqb b 45) refl h
  where
    by : (t : Bool) → (eqb b 43 || eqb b 45) ≡ t → list_all is_digit (cond t bs (b ∷ bs)) ≡ true → list_all is_number_char (b ∷ bs) ≡ true
    by true t h = and_true (is_number_char b) (list_all is_number_char bs) (sign_number b t) (digits_numbers bs h)
    by false t h = digits_numbers (b ∷ bs) h

pub int_numbers : (run : List ℕ) (v : ℤ) → int_of run ≡ Ok v → list_all is_number_char run ≡ true
unfolding int_of
int_numbers run v e =
    let u = without_sign run in
    let t = let_through (is_digits u) (cond (ltb 12 (length (significant_digits u))) (Err TooManyDigits) (Ok (signed_value run (value u)))) v BadNumber e in
    signed_numbers run (both_true (not (eqb (length u) 0)) (list_all is_digit u) t).1

pub nat_digits : (digits : List ℕ) (n : ℕ) → nat_of digits ≡ Ok n → list_all is_digit digits ≡ true
unfolding nat_of
nat_digits digits n e =
    let t = let_through (is_digits digits && leb (value digits) 2147483647) (Ok (value digits)) n BadNumber e in
    (both_true (not (eqb (length digits) 0)) (list_all is_digit digits) (both_true (is_digits digits) (leb (value digits) 2147483647) t).0).1

-- ---- coordinates

-- the bytes of a field, where it stands, pass a test
abbrev pub AllPass : (ℕ → Bool) → Option (List ℕ) → Type 0
AllPass test run = list_all test (unwrap_or run []) ≡ true

pub some_is : {A : Type 0} (x y : A) → Some x ≡ Some y → x ≡ y
some_is x y e = cc

pub names_numbers : (run : Option (List ℕ)) (v : Option ℤ) → NamesInt run v → AllPass is_number_char run
names_numbers None v e = refl
names_numbers (Some run) None e = absurd cc
names_numbers (Some run) (Some v) e = int_numbers run v (some_is (int_of run) (Ok v) e)

pub names_read : (run : Option (List ℕ)) (v : Option ℤ) → NamesInt run v → coordinate run ≡ Ok v
unfolding coordinate
names_read None None e = refl
names_read None (Some v) e = absurd cc
names_read (Some run) None e = absurd cc
names_read (Some run) (Some v) e = λ i. some_is (int_of run) (Ok v) e i >>= λ n. Ok (Some n)

pub names_none : (v : Option ℤ) → NamesInt None v → v ≡ None
names_none None e = refl
names_none (Some v) e = absurd cc

-- ---- fields

-- a run stops here, and no field with this letter begins
stops : ℕ → List ℕ → Bool
stops letter [] = true
stops letter (b ∷ bs) = not (is_number_char b) && not (eqb b letter)

no_run : (letter : ℕ) (rest : List ℕ) → stops letter rest ≡ true → prefix_len is_number_char rest ≡ 0
unfolding stops
no_run letter [] h = refl
no_run letter (b ∷ bs) h = ap (λ t. cond t (1 + prefix_len is_number_char bs) 0) (not_true (is_number_char b) (both_true (not (is_number_char b)) (not (eqb b letter)) h).0)

no_field : (letter : ℕ) (rest : List ℕ) → stops letter rest ≡ true → split_field is_number_char letter rest ≡ (None, rest)
unfolding stops
no_field letter [] h = refl
no_field letter (b ∷ bs) h = ap (λ t. cond t (Some (take_while is_number_char bs), drop (prefix_len is_number_char bs) bs) (None, b ∷ bs)) (not_true (eqb b letter) (both_true (not (is_number_char b)) (not (eqb b letter)) h).1)

coordinate_field : (letter : ℕ) (run : Option (List ℕ)) (rest : List ℕ) → eqb letter letter ≡ true → AllPass is_number_char run → stops letter rest ≡ true → split_field is_number_char letter (field (letter ∷ []) run ++ rest) ≡ (run, rest)
coordinate_field letter None rest same all h = no_field letter rest h
coordinate_field letter (Some run) rest same all h =
    ap (λ t. cond t (Some (take_while is_number_char (run ++ rest)), drop (prefix_len is_number_char (run ++ rest)) (run ++ rest)) (None, letter ∷ (run ++ rest))) same
    ∙ (λ i. (Some (take_while_append is_number_char run rest all (no_run letter rest h) i), drop_run_append is_number_char run rest all (no_run letter rest h) i))

code_field : (run : Option (List ℕ)) → AllPass is_digit run → split_field is_digit 68 (field (codes "D") run) ≡ (run, [])
code_field None all = refl
code_field (Some run) all = λ i. (Some (take_while_all is_digit run all i), drop_run_all is_digit run all i)

stops_at : (letter other : ℕ) (run : Option (List ℕ)) (rest : List ℕ) → (not (is_number_char other) && not (eqb other letter)) ≡ true → stops letter rest ≡ true → stops letter (field (other ∷ []) run ++ rest) ≡ true
unfolding stops
stops_at letter other None rest h k = k
stops_at letter other (Some run) rest h k = h

stops_code : (letter : ℕ) (run : Option (List ℕ)) → not (eqb 68 letter) ≡ true → stops letter (field (codes "D") run) ≡ true
unfolding stops
stops_code letter None h = refl
stops_code letter (Some run) h = h

-- the fields that stand, one after the other
abbrev pub written_fields : Fields → List ℕ
written_fields f = field (codes "X") f.x ++ (field (codes "Y") f.y ++ (field (codes "I") f.i ++ (field (codes "J") f.j ++ field (codes "D") f.d)))

-- the fields, from one of them on
abbrev from_d : Option (List ℕ) → Option (List ℕ) → Option (List ℕ) → Option (List ℕ) → Option (List ℕ) × List ℕ → Fields
from_d x y i j d = record { x = x; y = y; i = i; j = j; d = d.0; rest = d.1 }

abbrev from_j : Option (List ℕ) → Option (List ℕ) → Option (List ℕ) → Option (List ℕ) × List ℕ → Fields
from_j x y i j = from_d x y i j.0 (split_field is_digit 68 j.1)

abbrev from_i : Option (List ℕ) → Option (List ℕ) → Option (List ℕ) × List ℕ → Fields
from_i x y i = from_j x y i.0 (split_field is_number_char 74 i.1)

abbrev from_y : Option (List ℕ) → Option (List ℕ) × List ℕ → Fields
from_y x y = from_i x y.0 (split_field is_number_char 73 y.1)

abbrev from_x : Option (List ℕ) × List ℕ → Fields
from_x x = from_y x.0 (split_field is_number_char 89 x.1)

pub fields_read : (x y i j d : Option (List ℕ)) → AllPass is_number_char x → AllPass is_number_char y → AllPass is_number_char i → AllPass is_number_char j → AllPass is_digit d
    → fields (written_fields (from_d x y i j (d, []))) ≡ from_d x y i j (d, [])
unfolding fields
fields_read x y i j d xs ys is js ds =
    let r4 = field (codes "D") d in
    let r3 = field (codes "J") j ++ r4 in
    let r2 = field (codes "I") i ++ r3 in
    let r1 = field (codes "Y") y ++ r2 in
    let fx = coordinate_field 88 x r1 refl xs (stops_at 88 89 y r2 refl (stops_at 88 73 i r3 refl (stops_at 88 74 j r4 refl (stops_code 88 d refl)))) in
    let fy = coordinate_field 89 y r2 refl ys (stops_at 89 73 i r3 refl (stops_at 89 74 j r4 refl (stops_code 89 d refl))) in
    let fi = coordinate_field 73 i r3 refl is (stops_at 73 74 j r4 refl (stops_code 73 d refl)) in
    let fj = coordinate_field 74 j r4 refl js (stops_code 74 d refl) in
    (λ k. from_x (fx k)) ∙ (λ k. from_y x (fy k)) ∙ (λ k. from_i x y (fi k)) ∙ (λ k. from_j x y i (fj k)) ∙ (λ k. from_d x y i j (code_field d ds k))

-- ---- no `%`

-- no byte of the text is `%`
abbrev pub NoPercent : List ℕ → Type 0
NoPercent text = list_any (λ b. eqb b 37) text ≡ false

number_no_percent : (b : ℕ) → is_number_char b ≡ true → eqb b 37 ≡ false
number_no_percent b h = by (eqb b 37) refl
  where
    by : (t : Bool) → eqb b 37 ≡ t → eqb b 37 ≡ false
    by true e = absurd (let k : is_number_char 37 ≡ true = ap is_number_char (sym (eqb-true b 37 e)) ∙ h in false≢true k)
    by false e = e

pub numbers_no_percent : (run : List ℕ) → list_all is_number_char run ≡ true → NoPercent run
numbers_no_percent [] h = refl
numbers_no_percent (b ∷ bs) h = let k = both_true (is_number_char b) (list_all is_number_char bs) h in λ i. number_no_percent b k.0 i || numbers_no_percent bs k.1 i

pub append_no_percent : (a b : List ℕ) → NoPercent a → NoPercent b → NoPercent (a ++ b)
append_no_percent a b h k = list_any-append (λ c. eqb c 37) a b ∙ (λ i. h i || k i)

field_no_percent : (letter : ℕ) (run : Option (List ℕ)) → eqb letter 37 ≡ false → AllPass is_number_char run → NoPercent (field (letter ∷ []) run)
field_no_percent letter None h all = refl
field_no_percent letter (Some run) h all = λ i. h i || numbers_no_percent run all i

digits_pass : (run : Option (List ℕ)) → AllPass is_digit run → AllPass is_number_char run
digits_pass None h = refl
digits_pass (Some run) h = digits_numbers run h

pub fields_no_percent : (x y i j d : Option (List ℕ)) → AllPass is_number_char x → AllPass is_number_char y → AllPass is_number_char i → AllPass is_number_char j → AllPass is_digit d
    → NoPercent (written_fields (from_d x y i j (d, [])))
fields_no_percent x y i j d xs ys is js ds =
    let r4 = field (codes "D") d in
    let r3 = field (codes "J") j ++ r4 in
    let r2 = field (codes "I") i ++ r3 in
    let r1 = field (codes "Y") y ++ r2 in
    append_no_percent (field (codes "X") x) r1 (field_no_percent 88 x refl xs)
    (append_no_percent (field (codes "Y") y) r2 (field_no_percent 89 y refl ys)
    (append_no_percent (field (codes "I") i) r3 (field_no_percent 73 i refl is)
    (append_no_percent (field (codes "J") j) r4 (field_no_percent 74 j refl js) (field_no_percent 68 d refl (digits_pass d ds)))))
