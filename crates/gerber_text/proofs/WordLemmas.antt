-- The words of operations are so written.
use Rattle.gerber_text.proofs.Common.{◌≡◌, ◌⊎◌, inl, inr, ℕ, Bool, true, false, not, ◌||◌, ◌&&◌, List, [], ◌∷◌, ◌++◌, ℤ, Option, Some, None, is_some, Ok, Contains, refl, sym, ap, ◌∙◌, arith, append_assoc, IfSome, list_all, option_map, is_number_char, Operate, Action, Plot, Move, Flash, Interpolation, Linear, Clockwise, Counterclockwise, nat_of, modes_of, integer, coordinate_text, action_code, is_plot, mode_prefix, coordinate_field, and_true, both_true, list_all_append}
use Rattle.gerber_commands.specs.WordGrammar.{field, modes, NamesInt, IsOperation, code as code_number}
use Rattle.gerber_text.specs.Sayable.{is_text_byte, is_text, is_optional_int, is_operation as has_operands}
use Rattle.gerber_text.proofs.NumberLemmas.{numbers_text, int_is}

-- the digits of an operation's D code
digits_of : Action → List ℕ
digits_of Plot = 48 ∷ 49 ∷ []
digits_of Move = 48 ∷ 50 ∷ []
digits_of Flash = 48 ∷ 51 ∷ []

code : Action → List ℕ
code a = 68 ∷ digits_of a

-- the word of an operation with these runs, and an interpolation before it or none
pub operation_word : Option Interpolation → Option (List ℕ) → Option (List ℕ) → Option (List ℕ) → Option (List ℕ) → Action → List ℕ
operation_word m x y i j a = mode_prefix m ++ (coordinate_field 88 x ++ (coordinate_field 89 y ++ (coordinate_field 73 i ++ (coordinate_field 74 j ++ code a))))

-- ---- fields

code_is : (a : Action) → option_map nat_of (Some (digits_of a)) ≡ Some (Ok (code_number a))
unfolding nat_of digits_of
code_is Plot = refl
code_is Move = refl
code_is Flash = refl

mode_listed : (m : Option Interpolation) → Contains (([], []) ∷ modes) (mode_prefix m, modes_of m)
mode_listed None = (0, omega arith, refl)
mode_listed (Some Linear) = (1, omega arith, refl)
mode_listed (Some Clockwise) = (3, omega arith, refl)
mode_listed (Some Counterclockwise) = (5, omega arith, refl)

field_is : (letter : ℕ) (run : Option (List ℕ)) → coordinate_field letter run ≡ field (letter ∷ []) run
field_is letter None = refl
field_is letter (Some run) = refl

-- a run stands where its value does
stands : (run : Option (List ℕ)) (v : Option ℤ) → NamesInt run v → is_some run ≡ is_some v
stands None None e = refl
stands None (Some v) e = absurd cc
stands (Some run) None e = absurd cc
stands (Some run) (Some v) e = refl

plot_or_none : (a : Action) (i j : Option (List ℕ)) → (is_plot a || not (is_some i || is_some j)) ≡ true → (a ≡ Plot) ⊎ ((i ≡ None) × (j ≡ None))
plot_or_none Plot i j h = inl refl
plot_or_none a None None h = inr (refl, refl)
plot_or_none Move (Some run) j h = absurd cc
plot_or_none Flash (Some run) j h = absurd cc
plot_or_none Move None (Some run) h = absurd cc
plot_or_none Flash None (Some run) h = absurd cc

some_stands : (a b c d : Bool) → (a || (b || (c || (d || true)))) ≡ true
some_stands true b c d = refl
some_stands false true c d = refl
some_stands false false true d = refl
some_stands false false false true = refl
some_stands false false false false = refl

six : (a b c d e f : List ℕ) → a ++ (b ++ (c ++ (d ++ (e ++ f)))) ≡ a ++ b ++ c ++ d ++ e ++ f
six a b c d e f = simp append_assoc refl

pub word_written : (repeated : Option Action) (m : Option Interpolation) (x y i j : Option (List ℕ)) (a : Action) (v w s t : Option ℤ) → NamesInt x v → NamesInt y w → NamesInt i s → NamesInt j t → (is_plot a || not (is_some s || is_some t)) ≡ true
    → IsOperation repeated (operation_word m x y i j a) (modes_of m ++ Operate a v w s t ∷ [])
unfolding operation_word code
word_written repeated m x y i j a v w s t nx ny ni nj h = record {
  mode = (mode_prefix m, modes_of m);
  x = x;
  y = y;
  i = i;
  j = j;
  d = Some (digits_of a);
  what = a;
  at = (v, w);
  offset = (s, t);
  mode_is = mode_listed m;
  written = six (mode_prefix m) (coordinate_field 88 x) (coordinate_field 89 y) (coordinate_field 73 i) (coordinate_field 74 j) (code a) ∙ (λ k. mode_prefix m ++ field_is 88 x k ++ field_is 89 y k ++ field_is 73 i k ++ field_is 74 j k ++ code a);
  some = some_stands (is_some x) (is_some y) (is_some i) (is_some j);
  names = (nx, ny, ni, nj);
  does = inl (code_is a);
  plots = plot_or_none a i j ((λ k. is_plot a || not (stands i s ni k || stands j t nj k)) ∙ h);
  is = refl;
}

-- ---- bytes

-- the run, if it stands, has number characters alone
abbrev pub AreNumbers : Option (List ℕ) → Type 0
AreNumbers run = IfSome run (λ r. list_all is_number_char r ≡ true)

field_bytes : (letter : ℕ) (run : Option (List ℕ)) → is_text_byte letter ≡ true → AreNumbers run → is_text (coordinate_field letter run) ≡ true
field_bytes letter None h k = refl
field_bytes letter (Some run) h k = and_true (is_text_byte letter) (is_text run) h (numbers_text run k)

mode_bytes : (m : Option Interpolation) → is_text (mode_prefix m) ≡ true
mode_bytes None = refl
mode_bytes (Some Linear) = refl
mode_bytes (Some Clockwise) = refl
mode_bytes (Some Counterclockwise) = refl

code_bytes : (a : Action) → is_text (code a) ≡ true
unfolding code digits_of
code_bytes Plot = refl
code_bytes Move = refl
code_bytes Flash = refl

pub word_bytes : (m : Option Interpolation) (x y i j : Option (List ℕ)) (a : Action) → AreNumbers x → AreNumbers y → AreNumbers i → AreNumbers j → is_text (operation_word m x y i j a) ≡ true
unfolding operation_word
word_bytes m x y i j a hx hy hi hj =
    let r4 = coordinate_field 74 j ++ code a in
    let r3 = coordinate_field 73 i ++ r4 in
    let r2 = coordinate_field 89 y ++ r3 in
    list_all_append is_text_byte (mode_prefix m) (coordinate_field 88 x ++ r2) (mode_bytes m)
    (list_all_append is_text_byte (coordinate_field 88 x) r2 (field_bytes 88 x refl hx)
    (list_all_append is_text_byte (coordinate_field 89 y) r3 (field_bytes 89 y refl hy)
    (list_all_append is_text_byte (coordinate_field 73 i) r4 (field_bytes 73 i refl hi)
    (list_all_append is_text_byte (coordinate_field 74 j) (code a) (field_bytes 74 j refl hj) (code_bytes a)))))

-- ---- the item

-- a text after another one, ended by a third
pub append_to_ended : (a xs ys s : List ℕ) → xs ≡ ys ++ s → a ++ xs ≡ (a ++ ys) ++ s
append_to_ended a xs ys s h = ap (λ (l : List ℕ). a ++ l) h ∙ sym (append_assoc a ys s)

code_ends : (a : Action) → action_code a ≡ code a ++ 42 ∷ []
unfolding code digits_of
code_ends Plot = refl
code_ends Move = refl
code_ends Flash = refl

pub word_ends : (m : Option Interpolation) (x y i j : Option (List ℕ)) (a : Action) → mode_prefix m ++ (coordinate_field 88 x ++ (coordinate_field 89 y ++ (coordinate_field 73 i ++ (coordinate_field 74 j ++ action_code a)))) ≡ operation_word m x y i j a ++ 42 ∷ []
unfolding operation_word
word_ends m x y i j a =
    let star : List ℕ = 42 ∷ [] in
    append_to_ended (mode_prefix m) _ _ star
    (append_to_ended (coordinate_field 88 x) _ _ star (append_to_ended (coordinate_field 89 y) _ _ star (append_to_ended (coordinate_field 73 i) _ _ star (append_to_ended (coordinate_field 74 j) (action_code a) (code a) star (code_ends a)))))

-- ---- the canonical word

-- the run of a coordinate that stands
pub runs_word : Option ℤ → Option (List ℕ)
runs_word None = None
runs_word (Some v) = Some (integer v)

pub operation_text : Action → Option ℤ → Option ℤ → Option ℤ → Option ℤ → List ℕ
operation_text a x y i j = operation_word None (runs_word x) (runs_word y) (runs_word i) (runs_word j) a

coordinate_is : (letter : ℕ) (v : Option ℤ) → coordinate_text letter v ≡ coordinate_field letter (runs_word v)
unfolding runs_word
coordinate_is letter None = refl
coordinate_is letter (Some v) = refl

names_int : (v : Option ℤ) → is_optional_int v ≡ true → NamesInt (runs_word v) v × AreNumbers (runs_word v)
unfolding runs_word
names_int None h = (refl, tt)
names_int (Some v) h = let run = int_is v h in (ap (λ r. Some r) run.reads, run.numbers)

-- the operation is written, and its bytes are those of a text
pub operation_written : (a : Action) (x y i j : Option ℤ) → has_operands a x y i j ≡ true → ((repeated : Option Action) → IsOperation repeated (operation_text a x y i j) (Operate a x y i j ∷ [])) × (is_text (operation_text a x y i j) ≡ true)
unfolding operation_text
operation_written a x y i j h =
    let k = both_true (is_optional_int x && is_optional_int y) ((is_optional_int i && is_optional_int j) && (is_plot a || not (is_some i || is_some j))) h in
    let xy = both_true (is_optional_int x) (is_optional_int y) k.0 in
    let l = both_true (is_optional_int i && is_optional_int j) (is_plot a || not (is_some i || is_some j)) k.1 in
    let ij = both_true (is_optional_int i) (is_optional_int j) l.0 in
    let nx = names_int x xy.0 in
    let ny = names_int y xy.1 in
    let ni = names_int i ij.0 in
    let nj = names_int j ij.1 in (
      λ repeated. word_written repeated None (runs_word x) (runs_word y) (runs_word i) (runs_word j) a x y i j nx.0 ny.0 ni.0 nj.0 l.1,
      word_bytes None (runs_word x) (runs_word y) (runs_word i) (runs_word j) a nx.1 ny.1 ni.1 nj.1,
    )

pub operation_whole : (a : Action) (x y i j : Option ℤ) → coordinate_text 88 x ++ (coordinate_text 89 y ++ (coordinate_text 73 i ++ (coordinate_text 74 j ++ action_code a))) ≡ operation_text a x y i j ++ 42 ∷ []
unfolding operation_text
operation_whole a x y i j = (λ k. coordinate_is 88 x k ++ (coordinate_is 89 y k ++ (coordinate_is 73 i k ++ (coordinate_is 74 j k ++ action_code a)))) ∙ word_ends None (runs_word x) (runs_word y) (runs_word i) (runs_word j) a
