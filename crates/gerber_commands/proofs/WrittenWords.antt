-- What a word is read as is written by that word.
use Rattle.gerber_commands.proofs.Common.{◌≡◌, ℕ, suc, ◌⊎◌, inl, inr, Bool, true, false, cond, not, ◌||◌, ◌&&◌, eqb, leb, List, [], ◌∷◌, ◌++◌, length, take, drop, Option, Some, None, is_some, Result, Ok, Err, refl, sym, ap, subst, ◌∙◌, arith, append_assoc, codes, take_while, option_map, option_or, list_any, list_all, prefix_len, AllByRecursion, bytes_eq, eqb-true, leb-true, take-append-drop, Reason, BadWord, NegativeImage, Incremental, OldParameter, Inch, Millimetre, is_digit, is_number_char, ◌>>=◌, both, strip_prefix, literal_row, Command, Comment, Mode, Quadrant, RegionStart, RegionEnd, UnitIs, Select, Operate, Finish, Interpolation, Single, Multi, Action, Plot, Move, Flash, Meaning, Row, first_match, modes_of, is_negative_comment, comment_row, interpolations, match_mode, action, digits_after, named_action, is_plot, Fields, is_operation, has_offsets, words, NamesInt, fixed_words, modes, code, IsOperation, IsWord, both_true, map_contains, bind_ok, both_ok}
use Rattle.std.proofs.Common.{ℤ, Contains, append-nil}
use Rattle.std.specs.Prelude.{unwrap_or}
use Rattle.std.proofs.lemmas.Slice.Eq.{bytes_eq-Decides}
use Rattle.gerber_commands.specs.Numbers.{int_of, nat_of}
use Rattle.gerber_commands.specs.Rows.{field as split_field}
use Rattle.gerber_commands.specs.Words.{no_effect_row, comment, split_mode, mode_row, quadrant_row, region_row, unit_row, incremental_row, d_word, g54_word, select_row, coordinate, kind, fields, is_action_code, operands, operate, operation_row, finish_row, deprecated_row, word}
use Rattle.gerber_commands.specs.WordGrammar.{field}
use Rattle.gerber_commands.proofs.FieldLemmas.{some_is, written_fields}

-- ---- rows

-- what a row answers is written by the text
abbrev pub RowWritten : Option Action → List ℕ → Row → Type 0
RowWritten last text row = (commands : List Command) → row ≡ Some (Ok commands) → IsWord last text commands

first_written : (last : Option Action) (text : List ℕ) (rows : List Row) → AllByRecursion (RowWritten last text) rows → (commands : List Command) → first_match rows ≡ Ok commands → IsWord last text commands
first_written last text [] h cs e = absurd cc
first_written last text (None ∷ rows) h cs e = first_written last text rows h.1 cs e
first_written last text (Some m ∷ rows) h cs e = h.0 cs (ap (λ (n : Meaning). Some n) e)

-- an answer
abbrev answer : {A : Type 0} → A → Result A Reason
answer x = Ok x

ok_is : {A : Type 0} (x y : A) → answer x ≡ Ok y → x ≡ y
ok_is x y e = cc

-- a row that a test lets through
row_test : (t : Bool) (row : Row) (cs : List Command) → cond t row None ≡ Some (Ok cs) → (t ≡ true) × (row ≡ Some (Ok cs))
row_test true row cs e = (refl, e)
row_test false row cs e = absurd cc

row_either : (a b : Row) (cs : List Command) → option_or a b ≡ Some (Ok cs) → (a ≡ Some (Ok cs)) ⊎ (b ≡ Some (Ok cs))
row_either None b cs e = inr e
row_either (Some m) b cs e = inl e

mapped : {A B : Type 0} (f : A → B) (o : Option A) (y : B) → option_map f o ≡ Some y → (x : A) × (o ≡ Some x) × (f x ≡ y)
mapped f None y e = absurd cc
mapped f (Some x) y e = (x, refl, cc)

either_is : (a b : Bool) → (a || b) ≡ true → (a ≡ true) ⊎ (b ≡ true)
either_is true b e = inl refl
either_is false b e = inr e

bytes_are : (a b : List ℕ) → bytes_eq a b ≡ true → a ≡ b
bytes_are a b e = (bytes_eq-Decides a b).0 e

-- ---- words of one form

fixed : (last : Option Action) (text : List ℕ) (c : List Command) → Contains fixed_words (text, c) → (cs : List Command) → answer c ≡ Ok cs → IsWord last text cs
fixed last text c at cs e = inl (subst (λ (d : List Command). Contains fixed_words (text, d)) (ok_is c cs e) at)

-- what a row of literals answers is what one of them spells
literal_written : (last : Option Action) (text : List ℕ) (forms : List (List ℕ × Meaning)) → AllByRecursion (λ form. (cs : List Command) → form.1 ≡ Ok cs → IsWord last form.0 cs) forms → RowWritten last text (literal_row forms text)
literal_written last text [] h cs e = absurd cc
literal_written last text (form ∷ forms) h cs e = by (bytes_eq text form.0) refl e (literal_written last text forms h.1 cs)
  where
    by : (t : Bool) → bytes_eq text form.0 ≡ t → cond t (Some form.1) (literal_row forms text) ≡ Some (Ok cs) → (literal_row forms text ≡ Some (Ok cs) → IsWord last text cs) → IsWord last text cs
    by true t e later = subst (λ (w : List ℕ). IsWord last w cs) (sym (bytes_are text form.0 t)) (h.0 cs (some_is form.1 (Ok cs) e))
    by false t e later = later e

quadrant_written : (last : Option Action) (text : List ℕ) → RowWritten last text (quadrant_row text)
unfolding quadrant_row
quadrant_written last text = literal_written last text ((codes "G74", Ok (Quadrant Single ∷ [])) ∷ (codes "G75", Ok (Quadrant Multi ∷ [])) ∷ [])
    (fixed last (codes "G74") (Quadrant Single ∷ []) (2, omega arith, refl), (fixed last (codes "G75") (Quadrant Multi ∷ []) (3, omega arith, refl), tt))

region_written : (last : Option Action) (text : List ℕ) → RowWritten last text (region_row text)
unfolding region_row
region_written last text = literal_written last text ((codes "G36", Ok (RegionStart ∷ [])) ∷ (codes "G37", Ok (RegionEnd ∷ [])) ∷ [])
    (fixed last (codes "G36") (RegionStart ∷ []) (4, omega arith, refl), (fixed last (codes "G37") (RegionEnd ∷ []) (5, omega arith, refl), tt))

unit_written : (last : Option Action) (text : List ℕ) → RowWritten last text (unit_row text)
unfolding unit_row
unit_written last text = literal_written last text ((codes "G70", Ok (UnitIs Inch ∷ [])) ∷ (codes "G71", Ok (UnitIs Millimetre ∷ [])) ∷ [])
    (fixed last (codes "G70") (UnitIs Inch ∷ []) (6, omega arith, refl), (fixed last (codes "G71") (UnitIs Millimetre ∷ []) (7, omega arith, refl), tt))

incremental_written : (last : Option Action) (text : List ℕ) → RowWritten last text (incremental_row text)
unfolding incremental_row
incremental_written last text = literal_written last text ((codes "G91", Err Incremental) ∷ []) ((λ cs e. absurd cc), tt)

-- one of two literals
one_of_two : (last : Option Action) (text v w : List ℕ) (c : List Command) → Contains fixed_words (v, c) → Contains fixed_words (w, c) → (text ≡ v) ⊎ (text ≡ w) → (cs : List Command) → Some (answer c) ≡ Some (Ok cs) → IsWord last text cs
one_of_two last text v w c at_v at_w h cs e = elim h [
  | inl k ↦ fixed last text c (subst (λ (u : List ℕ). Contains fixed_words (u, c)) (sym k) at_v) cs (some_is (Ok c) (Ok cs) e)
  | inr k ↦ fixed last text c (subst (λ (u : List ℕ). Contains fixed_words (u, c)) (sym k) at_w) cs (some_is (Ok c) (Ok cs) e)
]

no_bytes : (text : List ℕ) → eqb (length text) 0 ≡ true → text ≡ []
no_bytes [] e = refl
no_bytes (b ∷ bs) e = absurd (omega (arith, eqb-true (length (b ∷ bs)) 0 e))

no_effect_written : (last : Option Action) (text : List ℕ) → RowWritten last text (no_effect_row text)
unfolding no_effect_row
no_effect_written last text cs e =
    let t = row_test (eqb (length text) 0 || bytes_eq text (codes "G90")) (Some (Ok [])) cs e in
    let is : (text ≡ []) ⊎ (text ≡ codes "G90") = elim (either_is (eqb (length text) 0) (bytes_eq text (codes "G90")) t.0) [ inl k ↦ inl (no_bytes text k) | inr k ↦ inr (bytes_are text (codes "G90") k) ] in
    one_of_two last text [] (codes "G90") [] (0, omega arith, refl) (1, omega arith, refl) is cs t.1

finish_written : (last : Option Action) (text : List ℕ) → RowWritten last text (finish_row text)
unfolding finish_row
finish_written last text cs e =
    let t = row_test (bytes_eq text (codes "M02") || bytes_eq text (codes "M2")) (Some (Ok (Finish ∷ []))) cs e in
    let is : (text ≡ codes "M02") ⊎ (text ≡ codes "M2") = elim (either_is (bytes_eq text (codes "M02")) (bytes_eq text (codes "M2")) t.0) [ inl k ↦ inl (bytes_are text (codes "M02") k) | inr k ↦ inr (bytes_are text (codes "M2") k) ] in
    one_of_two last text (codes "M02") (codes "M2") (Finish ∷ []) (8, omega arith, refl) (9, omega arith, refl) is cs t.1

deprecated_written : (last : Option Action) (text : List ℕ) → RowWritten last text (deprecated_row text)
unfolding deprecated_row
deprecated_written last text cs e =
    let t = row_test (bytes_eq text (codes "M00") || (bytes_eq text (codes "M01") || is_some (strip_prefix (codes "N") text))) (Some (Err OldParameter)) cs e in
    absurd (let k : Some (Err OldParameter) ≡ Some (Ok cs) = t.1 in cc)

-- ---- prefixes

prefix_is : (prefix text rest : List ℕ) → strip_prefix prefix text ≡ Some rest → text ≡ prefix ++ rest
prefix_is prefix text rest e = by (bytes_eq (take (length prefix) text) prefix) refl e
  where
    by : (t : Bool) → bytes_eq (take (length prefix) text) prefix ≡ t → cond t (Some (drop (length prefix) text)) None ≡ Some rest → text ≡ prefix ++ rest
    by true t e =
        let front : take (length prefix) text ≡ prefix = bytes_are (take (length prefix) text) prefix t in
        let back : drop (length prefix) text ≡ rest = some_is (drop (length prefix) text) rest e in
        sym (take-append-drop (length prefix) text) ∙ (λ i. front i ++ back i)
    by false t e = absurd cc

-- ---- comments

comment_is : (t : Bool) (text : List ℕ) (cs : List Command) → cond t (Err NegativeImage) (answer (Comment text ∷ [])) ≡ Ok cs → (t ≡ false) × (cs ≡ Comment text ∷ [])
comment_is true text cs e = absurd cc
comment_is false text cs e = (refl, cc)

comment_written : (last : Option Action) (text : List ℕ) → list_any (λ b. eqb b 37) text ≡ false → RowWritten last text (comment_row text)
unfolding comment
comment_written last text percent cs e =
    let k = mapped comment (strip_prefix (codes "G04") text) (Ok cs) e in
    let is : text ≡ codes "G04" ++ k.0 = prefix_is (codes "G04") text k.0 k.1 in
    let c = comment_is (is_negative_comment k.0) k.0 cs k.2 in
    inr (inr (inl (k.0, is, c.1, c.0, ap (λ (w : List ℕ). list_any (λ b. eqb b 37) w) (sym is) ∙ percent)))

-- ---- interpolations

-- a text begins with one of these words, or with none
abbrev Splits : List (List ℕ × Interpolation) → List ℕ → Option Interpolation × List ℕ → Type 0
Splits forms text answer = (answer ≡ (None, text)) ⊎ ((form : List ℕ × Interpolation) × Contains forms form × (answer.0 ≡ Some form.1) × (text ≡ form.0 ++ answer.1))

splits : (forms : List (List ℕ × Interpolation)) (text : List ℕ) → Splits forms text (match_mode forms text)
splits [] text = inl refl
splits (w ∷ ws) text = by (strip_prefix w.0 text) (λ rest e. prefix_is w.0 text rest e) (splits ws text)
  where
    by : (o : Option (List ℕ)) → ((rest : List ℕ) → o ≡ Some rest → text ≡ w.0 ++ rest) → Splits ws text (match_mode ws text) → Splits (w ∷ ws) text (unwrap_or (option_map (λ rest. (Some w.1, rest)) o) (match_mode ws text))
    by None is later = elim later [
      | inl e ↦ inl e
      | inr k ↦ inr (k.0, (suc k.1.0, (let lt = k.1.1 in omega arith), k.1.2), k.2, k.3)
    ]
    by (Some rest) is later = inr (w, (0, omega arith, refl), refl, is rest refl)

-- an interpolation at the start of a word, or none, and what is left
record Front (text : List ℕ) (answer : Option Interpolation × List ℕ) : Type 0 where
  mode : List ℕ × List Command
  mode_is : Contains (([], []) ∷ modes) mode
  spells : mode.1 ≡ modes_of answer.0
  written : text ≡ mode.0 ++ answer.1

mode_at : (form : List ℕ × Interpolation) → Contains interpolations form → Contains modes (form.0, Mode form.1 ∷ [])
mode_at form at = map_contains (λ (w : List ℕ × Interpolation). (w.0, Mode w.1 ∷ [])) interpolations form at

front : (text : List ℕ) → Front text (split_mode text)
unfolding split_mode
front text = elim (splits interpolations text) [
  | inl e ↦ record { mode = ([], []); mode_is = (0, omega arith, refl); spells = ap (λ (a : Option Interpolation × List ℕ). modes_of a.0) (sym e); written = ap (λ (a : Option Interpolation × List ℕ). a.1) (sym e) }
  | inr k ↦ let at = mode_at k.0 k.1 in record { mode = (k.0.0, Mode k.0.1 ∷ []); mode_is = (suc at.0, (let lt = at.1 in omega arith), at.2); spells = ap modes_of (sym k.2); written = k.3 }
]

mode_written : (last : Option Action) (text : List ℕ) → RowWritten last text (mode_row text)
unfolding mode_row split_mode
mode_written last text cs e =
    let split = match_mode interpolations text in
    let t = row_test (eqb (length split.1) 0) (option_map (λ mode. Ok (Mode mode ∷ [])) split.0) cs e in
    let m = mapped (λ mode. Ok (Mode mode ∷ [])) split.0 (Ok cs) t.1 in
    let spelled : Mode m.0 ∷ [] ≡ cs = let o : answer (Mode m.0 ∷ []) ≡ Ok cs = m.2 in cc in
    elim (splits interpolations text) [
      | inl k ↦ absurd (let none : None ≡ Some m.0 = ap (λ (a : Option Interpolation × List ℕ). a.0) (sym k) ∙ m.1 in cc)
      | inr k ↦
          let same : k.0.1 ≡ m.0 = some_is k.0.1 m.0 (sym k.2 ∙ m.1) in
          let whole : text ≡ k.0.0 = k.3 ∙ ap (λ (r : List ℕ). k.0.0 ++ r) (no_bytes split.1 t.0) ∙ append-nil k.0.0 in
          let both : (k.0.0, Mode k.0.1 ∷ []) ≡ (text, cs) = λ i. (sym whole i, (ap (λ (n : Interpolation). Mode n ∷ []) same ∙ spelled) i) in
          inr (inl (subst (λ (p : List ℕ × List Command). Contains modes p) both (mode_at k.0 k.1)))
    ]

-- ---- D codes alone

digits_are : (prefix text digits : List ℕ) → digits_after prefix text ≡ Some digits → text ≡ prefix ++ digits
digits_are prefix text digits e = by (list_all is_digit (unwrap_or (strip_prefix prefix text) [])) e
  where
    by : (t : Bool) → cond t (strip_prefix prefix text) None ≡ Some digits → text ≡ prefix ++ digits
    by true e = prefix_is prefix text digits e
    by false e = absurd cc

action_is : (n : ℕ) (a : Action) → action n ≡ Ok a → n ≡ code a
action_is n a e = by (eqb n 1) (eqb n 2) (eqb n 3) refl refl refl e
  where
    same : (m : ℕ) (b : Action) → n ≡ m → answer b ≡ Ok a → m ≡ code b → n ≡ code a
    same m b is e here = is ∙ here ∙ ap code (ok_is b a e)

    by : (t u v : Bool) → eqb n 1 ≡ t → eqb n 2 ≡ u → eqb n 3 ≡ v → cond t (Ok Plot) (cond u (Ok Move) (cond v (Ok Flash) (Err BadWord))) ≡ Ok a → n ≡ code a
    by true u v one two three e = same 1 Plot (eqb-true n 1 one) e refl
    by false true v one two three e = same 2 Move (eqb-true n 2 two) e refl
    by false false true one two three e = same 3 Flash (eqb-true n 3 three) e refl
    by false false false one two three e = absurd cc

selection : (last : Option Action) (text digits : List ℕ) (n : ℕ) (cs : List Command) → (text ≡ codes "D" ++ digits) ⊎ (text ≡ codes "G54D" ++ digits) → nat_of digits ≡ Ok n → leb 10 n ≡ true → answer (Select n ∷ []) ≡ Ok cs → IsWord last text cs
selection last text digits n cs is reads le e = inr (inr (inr (inl (digits, n, is, reads, leb-true 10 n le, sym (ok_is (Select n ∷ []) cs e)))))

-- an operation of a D code alone
bare : (last : Option Action) (text digits : List ℕ) (n : ℕ) (a : Action) (cs : List Command) → text ≡ codes "D" ++ digits → nat_of digits ≡ Ok n → action n ≡ Ok a → answer (Operate a None None None None ∷ []) ≡ Ok cs → IsOperation last text cs
bare last text digits n a cs is reads does e = record {
  mode = ([], []);
  x = None;
  y = None;
  i = None;
  j = None;
  d = Some digits;
  what = a;
  at = (None, None);
  offset = (None, None);
  mode_is = (0, omega arith, refl);
  written = is;
  some = refl;
  names = (refl, refl, refl, refl);
  does = inl (ap (λ (r : Result ℕ Reason). Some r) (reads ∙ ap (λ m. Ok m) (action_is n a does)));
  plots = inr (refl, refl);
  is = sym (ok_is (Operate a None None None None ∷ []) cs e);
}

d_word_written : (last : Option Action) (text digits : List ℕ) (cs : List Command) → text ≡ codes "D" ++ digits → d_word digits ≡ Ok cs → IsWord last text cs
unfolding d_word
d_word_written last text digits cs is e =
    let k = bind_ok (nat_of digits) (λ n. cond (leb 10 n) (Ok (Select n ∷ [])) (action n >>= λ what. Ok (Operate what None None None None ∷ []))) cs e in
    by k.0 k.1 (leb 10 k.0) refl k.2
  where
    by : (n : ℕ) → nat_of digits ≡ Ok n → (t : Bool) → leb 10 n ≡ t → cond t (Ok (Select n ∷ [])) (action n >>= λ what. Ok (Operate what None None None None ∷ [])) ≡ Ok cs → IsWord last text cs
    by n reads true t e = selection last text digits n cs (inl is) reads t e
    by n reads false t e = let k = bind_ok (action n) (λ what. Ok (Operate what None None None None ∷ [])) cs e in inr (inr (inr (inr (bare last text digits n k.0 cs is reads k.1 k.2))))

g54_word_written : (last : Option Action) (text digits : List ℕ) (cs : List Command) → text ≡ codes "G54D" ++ digits → g54_word digits ≡ Ok cs → IsWord last text cs
unfolding g54_word
g54_word_written last text digits cs is e =
    let k = bind_ok (nat_of digits) (λ n. cond (leb 10 n) (Ok (Select n ∷ [])) (Err BadWord)) cs e in
    by k.0 k.1 (leb 10 k.0) refl k.2
  where
    by : (n : ℕ) → nat_of digits ≡ Ok n → (t : Bool) → leb 10 n ≡ t → cond t (Ok (Select n ∷ [])) (Err BadWord) ≡ Ok cs → IsWord last text cs
    by n reads true t e = selection last text digits n cs (inr is) reads t e
    by n reads false t e = absurd cc

select_written : (last : Option Action) (text : List ℕ) → RowWritten last text (select_row text)
unfolding select_row
select_written last text cs e = elim (row_either (option_map d_word (digits_after (codes "D") text)) (option_map g54_word (digits_after (codes "G54D") text)) cs e) [
  | inl h ↦ let k = mapped d_word (digits_after (codes "D") text) (Ok cs) h in d_word_written last text k.0 cs (digits_are (codes "D") text k.0 k.1) k.2
  | inr h ↦ let k = mapped g54_word (digits_after (codes "G54D") text) (Ok cs) h in g54_word_written last text k.0 cs (digits_are (codes "G54D") text k.0 k.1) k.2
]

-- ---- operations

field_written : (test : ℕ → Bool) (letter : ℕ) (text : List ℕ) → text ≡ field (letter ∷ []) (split_field test letter text).0 ++ (split_field test letter text).1
field_written test letter [] = refl
field_written test letter (b ∷ bs) = by (eqb b letter) refl
  where
    by : (t : Bool) → eqb b letter ≡ t → b ∷ bs ≡ field (letter ∷ []) (cond {A = Option (List ℕ) × List ℕ} t (Some (take_while test bs), drop (prefix_len test bs) bs) (None, b ∷ bs)).0 ++ (cond {A = Option (List ℕ) × List ℕ} t (Some (take_while test bs), drop (prefix_len test bs) bs) (None, b ∷ bs)).1
    by true t = λ i. eqb-true b letter t i ∷ sym (take-append-drop (prefix_len test bs) bs) i
    by false t = refl

whole_is : (text m rest x y i j d : List ℕ) → text ≡ m ++ rest → rest ≡ x ++ (y ++ (i ++ (j ++ d))) → text ≡ m ++ x ++ y ++ i ++ j ++ d
whole_is text m rest x y i j d e h = e ∙ (ap (λ (t : List ℕ). m ++ t) h ∙ simp append_assoc)

spelled_is : (m n : List Command) (c : Command) (cs : List Command) → m ≡ n → answer (n ++ c ∷ []) ≡ Ok cs → cs ≡ m ++ c ∷ []
spelled_is m n c cs e h = sym (ok_is (n ++ c ∷ []) cs h) ∙ ap (λ (l : List Command). l ++ c ∷ []) (sym e)

fields_written : (text : List ℕ) → eqb (length (fields text).rest) 0 ≡ true → text ≡ written_fields (fields text)
unfolding fields
fields_written text nothing =
    let x = split_field is_number_char 88 text in
    let y = split_field is_number_char 89 x.1 in
    let i = split_field is_number_char 73 y.1 in
    let j = split_field is_number_char 74 i.1 in
    let d = split_field is_digit 68 j.1 in
    field_written is_number_char 88 text ∙ ap (λ (r : List ℕ). field (codes "X") x.0 ++ r)
    (field_written is_number_char 89 x.1 ∙ ap (λ (r : List ℕ). field (codes "Y") y.0 ++ r)
    (field_written is_number_char 73 y.1 ∙ ap (λ (r : List ℕ). field (codes "I") i.0 ++ r)
    (field_written is_number_char 74 i.1 ∙ ap (λ (r : List ℕ). field (codes "J") j.0 ++ r)
    (field_written is_digit 68 j.1 ∙ ap (λ (r : List ℕ). field (codes "D") d.0 ++ r) (no_bytes d.1 nothing) ∙ append-nil (field (codes "D") d.0)))))

some_stands : (a b c e : Bool) (d : Option (List ℕ)) → (a || (b || (c || (e || is_action_code d)))) ≡ true → (a || (b || (c || (e || (is_some d || false))))) ≡ true
unfolding is_action_code
some_stands true b c e d h = refl
some_stands false true c e d h = refl
some_stands false false true e d h = refl
some_stands false false false true d h = refl
some_stands false false false false None h = h
some_stands false false false false (Some digits) h = refl

coordinate_names : (run : Option (List ℕ)) (v : Option ℤ) → coordinate run ≡ Ok v → NamesInt run v
unfolding coordinate
coordinate_names None v e = ap (λ (o : Option ℤ). option_map answer o) (ok_is None v e)
coordinate_names (Some run) v e =
    let k = bind_ok (int_of run) (λ n. Ok (Some n)) v e in
    ap (λ (r : Result ℤ Reason). Some r) k.1 ∙ ap (λ (o : Option ℤ). option_map answer o) (ok_is (Some k.0) v k.2)

-- ---- what an operation does

none_stand : (i j : Option (List ℕ)) → (is_some i || is_some j) ≡ false → (i ≡ None) × (j ≡ None)
none_stand None None h = (refl, refl)
none_stand None (Some v) h = absurd cc
none_stand (Some v) j h = absurd cc

and_is : (t : Bool) → (t && true) ≡ false → t ≡ false
and_is true h = h
and_is false h = refl

offsets_plot : (a : Action) (i j : Option (List ℕ)) → ((is_some i || is_some j) && not (is_plot a)) ≡ false → (a ≡ Plot) ⊎ ((i ≡ None) × (j ≡ None))
offsets_plot Plot i j h = inl refl
offsets_plot Move i j h = inr (none_stand i j (and_is (is_some i || is_some j) h))
offsets_plot Flash i j h = inr (none_stand i j (and_is (is_some i || is_some j) h))

guard_is : (t : Bool) (a what : Action) → cond t (Err BadWord) (Ok a) ≡ Ok what → (t ≡ false) × (a ≡ what)
guard_is true a what e = absurd cc
guard_is false a what e = (refl, cc)

-- by its D code, or the last operation again
names_it : (last : Option Action) (d : Option (List ℕ)) (what : Action) → named_action d last ≡ Ok what → (option_map nat_of d ≡ Some (Ok (code what))) ⊎ ((d ≡ None) × (last ≡ Some what))
names_it None None what e = absurd cc
names_it (Some done) None what e = inr (refl, ap (λ (a : Action). Some a) (ok_is done what e))
names_it last (Some digits) what e =
    let n = bind_ok (nat_of digits) action what e in
    inl (ap (λ (r : Result ℕ Reason). Some r) (n.1 ∙ ap (λ m. Ok m) (action_is n.0 what n.2)))

does_it : (last : Option Action) (i j d : Option (List ℕ)) (what : Action) → kind last (is_some i || is_some j) d ≡ Ok what
    → ((option_map nat_of d ≡ Some (Ok (code what))) ⊎ ((d ≡ None) × (last ≡ Some what))) × ((what ≡ Plot) ⊎ ((i ≡ None) × (j ≡ None)))
unfolding kind
does_it last i j d what e =
    let a = bind_ok (named_action d last) (λ done. cond ((is_some i || is_some j) && not (is_plot done)) (Err BadWord) (Ok done)) what e in
    let g = guard_is ((is_some i || is_some j) && not (is_plot a.0)) a.0 what a.2 in
    (names_it last d what (a.1 ∙ ap (λ (b : Action). Ok b) g.1), offsets_plot what i j (ap (λ b. (is_some i || is_some j) && not (is_plot b)) (sym g.1) ∙ g.0))

operate_written : (last : Option Action) (text : List ℕ) (mode : Option Interpolation) (rest : List ℕ) (f : Fields) (cs : List Command) → Front text (mode, rest) → rest ≡ written_fields f → is_operation f ≡ true → operate last mode f ≡ Ok cs → IsOperation last text cs
unfolding operate operands
operate_written last text mode rest f cs start whole fits e =
    let k = bind_ok (both (both (both (coordinate f.x) (coordinate f.y)) (both (coordinate f.i) (coordinate f.j))) (kind last (has_offsets f) f.d)) (λ r. Ok (modes_of mode ++ Operate r.1 r.0.0.0 r.0.0.1 r.0.1.0 r.0.1.1 ∷ [])) cs e in
    let r = k.0 in
    let o = both_ok (both (both (coordinate f.x) (coordinate f.y)) (both (coordinate f.i) (coordinate f.j))) (kind last (has_offsets f) f.d) r k.1 in
    let four = both_ok (both (coordinate f.x) (coordinate f.y)) (both (coordinate f.i) (coordinate f.j)) r.0 o.0 in
    let xy = both_ok (coordinate f.x) (coordinate f.y) r.0.0 four.0 in
    let ij = both_ok (coordinate f.i) (coordinate f.j) r.0.1 four.1 in
    let does = does_it last f.i f.j f.d r.1 o.1 in
    let stands = both_true (eqb (length f.rest) 0) (is_some f.x || (is_some f.y || (is_some f.i || (is_some f.j || is_action_code f.d)))) fits in
    record {
      mode = start.mode;
      x = f.x;
      y = f.y;
      i = f.i;
      j = f.j;
      d = f.d;
      what = r.1;
      at = r.0.0;
      offset = r.0.1;
      mode_is = start.mode_is;
      written = whole_is text start.mode.0 rest (field (codes "X") f.x) (field (codes "Y") f.y) (field (codes "I") f.i) (field (codes "J") f.j) (field (codes "D") f.d) start.written whole;
      some = some_stands (is_some f.x) (is_some f.y) (is_some f.i) (is_some f.j) f.d stands.1;
      names = (coordinate_names f.x r.0.0.0 xy.0, coordinate_names f.y r.0.0.1 xy.1, coordinate_names f.i r.0.1.0 ij.0, coordinate_names f.j r.0.1.1 ij.1);
      does = does.0;
      plots = does.1;
      is = spelled_is start.mode.1 (modes_of mode) (Operate r.1 r.0.0.0 r.0.0.1 r.0.1.0 r.0.1.1) cs start.spells k.2;
    }

operation_written : (last : Option Action) (text : List ℕ) → RowWritten last text (operation_row last text)
unfolding operation_row
operation_written last text cs e =
    let split = split_mode text in
    let t = row_test (is_operation (fields split.1)) (Some (operate last split.0 (fields split.1))) cs e in
    let nothing = both_true (eqb (length (fields split.1).rest) 0) _ t.0 in
    inr (inr (inr (inr (operate_written last text split.0 split.1 (fields split.1) cs (front text) (fields_written split.1 nothing.0) t.0 (some_is (operate last split.0 (fields split.1)) (Ok cs) t.1)))))

-- ---- words

pub word_written : (last : Option Action) (text : List ℕ) (commands : List Command) → word last text ≡ Ok commands → IsWord last text commands
unfolding word
word_written last text commands e = by (list_any (λ b. eqb b 37) text) refl e
  where
    by : (t : Bool) → list_any (λ b. eqb b 37) text ≡ t → cond t (Err BadWord) (first_match (words last text)) ≡ Ok commands → IsWord last text commands
    by true t e = absurd cc
    by false t e =
        first_written last text (words last text)
        (no_effect_written last text, (comment_written last text t, (mode_written last text, (quadrant_written last text, (region_written last text, (unit_written last text, (incremental_written last text, (select_written last text, (operation_written last text, (finish_written last text, (deprecated_written last text, tt)))))))))))
        commands e
