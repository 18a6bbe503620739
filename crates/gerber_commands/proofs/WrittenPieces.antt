-- What the rows of extended items answer is so written.
use Rattle.gerber_commands.proofs.Common.{◌≡◌, ◌≢◌, inl, inr, ℕ, ◌+◌, ◌-◌, ◌<◌, ◌≤◌, Bool, true, false, cond, not, ◌||◌, ◌&&◌, eqb, leb, ltb, List, [], ◌∷◌, ◌++◌, length, take, drop, get_or, map, Option, Some, None, is_some, Result, Ok, Err, refl, sym, ap, subst, ◌∙◌, arith, append_assoc, codes, decimal, take_while, option_map, list_any, list_all, prefix_len, AllByRecursion, join_with_byte, bytes_eq, take-append-drop, take_all, drop_more, prefix_len_stops, join_with_byte-slice_split, All-from_recursion, eqb-true, leb-true, ltb-true, ltb-false, Decides-int_eq, decimal_digit, Reason, SeveralInOne, BlockAperture, NegativeImage, TrailingZeros, Incremental, OldParameter, BadWord, BadNumber, both, is_digit, is_number_char, strip_prefix, split_by, Command, FormatIs, Define, Macro, Turn, Scale, Repeat, RepeatEnd, Attribute, Remove, Format, StepRepeat, Standard, Circle, Rectangle, Obround, Polygon, Meaning, first_match, is_negative_image, last_byte, before_last, format, format_fields, standard_template, min_sizes, max_sizes, all_values, are_sizes, define_template, before_comma, after_comma, define_row, macro_of, run_after, repeat_fields, has_value, is_omitted_or, is_zero_rotation, has_no_effect, pieces, HasNo, standards, IsTemplate, IsMacro, IsOmittedOr, neutral_values, IsPiece, AnswersAreWritten, both_true, not_true, not_false, bind_ok, both_ok}
use Rattle.std.proofs.Common.{ℤ, pos}
use Rattle.std.specs.Prelude.{unwrap_or, All}
use Rattle.std.specs.List.{Contains}
use Rattle.std.proofs.lemmas.List.{append-nil}
use Rattle.grid_units.specs.Numbers.{parse_decimal}
use Rattle.gerber_commands.specs.declared.command.AttributeKind.TheVariants as kinds
use Rattle.gerber_commands.specs.declared.command.Template.TheVariants as templates
use Rattle.gerber_commands.specs.Numbers.{nat_of}
use Rattle.gerber_commands.specs.Rows.{field}
use Rattle.gerber_commands.specs.Pieces.{refused_format_row, format_row, unit_piece_row, is_name, sizes_of, aperture_number, define_standard, define_named, define, definition, macro_definition, polarity_row, mirror_row, turn, scale, transform_row, block_fields, repeat, repeat_start, repeat_row, file_attribute, attribute, removal, axes_equal, no_effect_piece_row, neutral_axes_row, negative_row, deprecated_piece_row, block_aperture_row, piece}
use Rattle.gerber_commands.specs.PieceGrammar as grammar
use Rattle.gerber_commands.proofs.RowLemmas.{guarded, refused, allowed, bytes_are, block_fields_are, begins, some_of, MeaningIsWritten, RowIsWritten, answer_written, refusal_written, one_written, idle_written, fixed_written, cond_written, bind_written, first_written, no_row, row_is, row_refuses, row_cond, row_map, row_or, row_literal}
use Rattle.gerber_commands.proofs.SplitLemmas.{parts_all}

-- ---- literals

unit_written : (text : List ℕ) → RowIsWritten text (unit_piece_row text)
unfolding unit_piece_row
unit_written text = row_literal text _ _ _ (fixed_written _ _ (0, omega arith, refl)) (row_literal text _ _ _ (fixed_written _ _ (1, omega arith, refl)) (no_row text))

polarity_written : (text : List ℕ) → RowIsWritten text (polarity_row text)
unfolding polarity_row
polarity_written text = row_literal text _ _ _ (fixed_written _ _ (2, omega arith, refl)) (row_refuses text _ _)

mirror_written : (text : List ℕ) → RowIsWritten text (mirror_row text)
unfolding mirror_row
mirror_written text =
    row_literal text _ _ _ (fixed_written _ _ (4, omega arith, refl)) (row_literal text _ _ _ (fixed_written _ _ (5, omega arith, refl))
    (row_literal text _ _ _ (fixed_written _ _ (6, omega arith, refl)) (row_literal text _ _ _ (fixed_written _ _ (7, omega arith, refl)) (no_row text))))

negative_written : (text : List ℕ) → RowIsWritten text (negative_row text)
unfolding negative_row
negative_written text = row_refuses text _ NegativeImage

-- ---- rows that refuse

refused_format_written : (text : List ℕ) → RowIsWritten text (refused_format_row text)
unfolding refused_format_row
refused_format_written text =
    row_cond text (is_some (strip_prefix (codes "FST") text)) (Some (Err TrailingZeros)) (cond (is_some (strip_prefix (codes "FSLI") text)) (Some (Err Incremental)) None)
    (λ _. row_is text (Err TrailingZeros) (refusal_written text TrailingZeros)) (λ _. row_refuses text (is_some (strip_prefix (codes "FSLI") text)) Incremental)

deprecated_written : (text : List ℕ) → RowIsWritten text (deprecated_piece_row text)
unfolding deprecated_piece_row
deprecated_written text = row_refuses text _ OldParameter

block_aperture_written : (text : List ℕ) → RowIsWritten text (block_aperture_row text)
unfolding block_aperture_row
block_aperture_written text = row_refuses text _ BlockAperture

-- ---- formats

-- a digit up to 6 is the decimal of its value
digit_is : (b : ℕ) → is_digit b ≡ true → leb b 54 ≡ true → (decimal (b - 48) ≡ b ∷ []) × (b - 48 ≤ 6)
digit_is b h l =
    let low : 48 ≤ b = leb-true 48 b (both_true (leb 48 b) (leb b 57) h).0 in
    let high : b ≤ 54 = leb-true b 54 l in
    let back : 48 + (b - 48) ≡ b = omega (arith, low) in
    (decimal_digit (b - 48) (omega (arith, high)) ∙ ap (λ (n : ℕ). n ∷ []) back, omega (arith, high))

format_written : (text : List ℕ) (i d j e : ℕ) → is_digit i ≡ true → is_digit d ≡ true → text ≡ codes "FSLAX" ++ i ∷ d ∷ 89 ∷ j ∷ e ∷ [] → MeaningIsWritten text (format i d j e)
format_written text i d j e hi hd is =
    cond_written text ((((eqb i j) && (eqb d e)) && (leb i 54 && leb d 54)) && ltb 96 (i + d)) (Ok (FormatIs (record { whole = i - 48; decimals = d - 48 }) ∷ [])) (Err BadNumber) (λ t.
    let a = both_true (((eqb i j) && (eqb d e)) && (leb i 54 && leb d 54)) (ltb 96 (i + d)) t in
    let b = both_true ((eqb i j) && (eqb d e)) (leb i 54 && leb d 54) a.0 in
    let s = both_true (eqb i j) (eqb d e) b.0 in
    let c = both_true (leb i 54) (leb d 54) b.1 in
    let l : 96 < i + d = ltb-true 96 (i + d) a.1 in
    let f : Format = record { whole = i - 48; decimals = d - 48 } in
    let w = digit_is i hi c.0 in
    let v = digit_is d hd c.1 in
    let written : codes "FSLAX" ++ i ∷ d ∷ 89 ∷ i ∷ d ∷ [] ≡ codes "FSLAX" ++ decimal f.whole ++ decimal f.decimals ++ codes "Y" ++ decimal f.whole ++ decimal f.decimals
    = sym (λ k. codes "FSLAX" ++ w.0 k ++ v.0 k ++ codes "Y" ++ w.0 k ++ v.0 k) in
    let same : text ≡ codes "FSLAX" ++ i ∷ d ∷ 89 ∷ i ∷ d ∷ [] = is ∙ sym (λ k. codes "FSLAX" ++ i ∷ d ∷ 89 ∷ eqb-true i j s.0 k ∷ eqb-true d e s.1 k ∷ []) in
    one_written text (FormatIs f) (w.1, v.1, omega (arith, l), same ∙ written))
    (λ _. refusal_written text BadNumber)

fields_written : (text rest : List ℕ) → text ≡ codes "FSLAX" ++ rest → RowIsWritten text (format_fields rest)
unfolding RowIsWritten
fields_written text [] is = tt
fields_written text (i ∷ []) is = tt
fields_written text (i ∷ d ∷ []) is = tt
fields_written text (i ∷ d ∷ y ∷ []) is = tt
fields_written text (i ∷ d ∷ y ∷ j ∷ []) is = tt
fields_written text (i ∷ d ∷ y ∷ j ∷ e ∷ []) is = row_cond text ((eqb y 89) && ((is_digit i && is_digit d) && (is_digit j && is_digit e))) (Some (format i d j e)) None (λ t.
    let a = both_true (eqb y 89) ((is_digit i && is_digit d) && (is_digit j && is_digit e)) t in
    let b = both_true (is_digit i && is_digit d) (is_digit j && is_digit e) a.1 in
    let c = both_true (is_digit i) (is_digit d) b.0 in
    format_written text i d j e c.0 c.1 (is ∙ (λ k. codes "FSLAX" ++ i ∷ d ∷ eqb-true y 89 a.0 k ∷ j ∷ e ∷ []))) (λ _. tt)
fields_written text (i ∷ d ∷ y ∷ j ∷ e ∷ b ∷ bs) is = tt

format_row_written : (text : List ℕ) → RowIsWritten text (format_row text)
unfolding format_row RowIsWritten
format_row_written text = by (strip_prefix (codes "FSLAX") text) refl
  where
    by : (o : Option (List ℕ)) → strip_prefix (codes "FSLAX") text ≡ o → RowIsWritten text (format_fields (unwrap_or o []))
    by None e = tt
    by (Some rest) e = fields_written text rest (begins (codes "FSLAX") text rest e)

-- ---- turns, scales, step and repeat

run_is : (prefix text run : List ℕ) → run_after prefix text ≡ Some run → text ≡ prefix ++ run
run_is prefix text run e = by (list_all is_number_char (unwrap_or (strip_prefix prefix text) [])) e
  where
    by : (t : Bool) → cond t (strip_prefix prefix text) None ≡ Some run → text ≡ prefix ++ run
    by true h = begins prefix text run h
    by false h = absurd cc

transform_written : (text : List ℕ) → RowIsWritten text (transform_row text)
unfolding transform_row turn scale
transform_written text =
    row_or text (option_map turn (run_after (codes "LR") text)) (option_map scale (run_after (codes "LS") text))
    (row_map text turn (run_after (codes "LR") text) (λ run e. bind_written text (parse_decimal run) (λ v. Ok (Turn v ∷ [])) (λ v h. one_written text (Turn v) (run, run_is (codes "LR") text run e, h))))
    (row_map text scale (run_after (codes "LS") text) (λ run e. bind_written text (parse_decimal run) (λ v. Ok (Scale v ∷ [])) (λ v h. one_written text (Scale v) (run, run_is (codes "LS") text run e, h))))

-- what reading a field gives, as its letter stands or not
abbrev field_by : Bool → (ℕ → Bool) → ℕ → List ℕ → Option (List ℕ) × List ℕ
field_by t test b bs = cond t (Some (take_while test bs), drop (prefix_len test bs) bs) (None, b ∷ bs)

-- a field, and what follows it
field_whole : (test : ℕ → Bool) (letter : ℕ) (text : List ℕ) → text ≡ grammar.field (letter ∷ []) (field test letter text).0 ++ (field test letter text).1
field_whole test letter [] = refl
field_whole test letter (b ∷ bs) = by (eqb b letter) refl
  where
    by : (t : Bool) → eqb b letter ≡ t → b ∷ bs ≡ grammar.field (letter ∷ []) (field_by t test b bs).0 ++ (field_by t test b bs).1
    by true same = λ i. eqb-true b letter same i ∷ sym (take-append-drop (prefix_len test bs) bs) i
    by false same = refl

field_is : (test : ℕ → Bool) (letter : ℕ) (text run : List ℕ) → (field test letter text).0 ≡ Some run → text ≡ letter ∷ (run ++ (field test letter text).1)
field_is test letter text run e = field_whole test letter text ∙ ap (λ (o : Option (List ℕ)). grammar.field (letter ∷ []) o ++ (field test letter text).1) e

block_written : (text x y i j : List ℕ) → text ≡ codes "SRX" ++ x ++ codes "Y" ++ y ++ codes "I" ++ i ++ codes "J" ++ j → MeaningIsWritten text (repeat x y i j)
unfolding repeat block_fields
block_written text x y i j is =
    bind_written text (both (both (nat_of x) (nat_of y)) (both (parse_decimal i) (parse_decimal j))) (λ p. Ok (Repeat (record { columns = p.0.0; rows = p.0.1; step_x = p.1.0; step_y = p.1.1 }) ∷ [])) (λ p e.
    let o = both_ok (both (nat_of x) (nat_of y)) (both (parse_decimal i) (parse_decimal j)) p e in
    let n = both_ok (nat_of x) (nat_of y) p.0 o.0 in
    let d = both_ok (parse_decimal i) (parse_decimal j) p.1 o.1 in
    let b : StepRepeat = record { columns = p.0.0; rows = p.0.1; step_x = p.1.0; step_y = p.1.1 } in
    one_written text (Repeat b) (x, y, i, j, is, n.0, n.1, d.0, d.1))

repeats_written : (text : List ℕ) (x y i j : Option (List ℕ)) (rest : List ℕ) → ((a b c d : List ℕ) → x ≡ Some a → y ≡ Some b → i ≡ Some c → j ≡ Some d → rest ≡ [] → text ≡ codes "SRX" ++ a ++ codes "Y" ++ b ++ codes "I" ++ c ++ codes "J" ++ d)
    → RowIsWritten text (repeat_fields x y i j rest)
unfolding RowIsWritten
repeats_written text (Some x) (Some y) (Some i) (Some j) [] h = block_written text x y i j (h x y i j refl refl refl refl refl)
repeats_written text (Some x) (Some y) (Some i) (Some j) (b ∷ bs) h = tt
repeats_written text (Some x) (Some y) (Some i) None rest h = tt
repeats_written text (Some x) (Some y) None j rest h = tt
repeats_written text (Some x) None i j rest h = tt
repeats_written text None y i j rest h = tt

start_written : (text rest : List ℕ) → text ≡ codes "SR" ++ rest → RowIsWritten text (repeat_start rest)
unfolding repeat_start
start_written text rest is =
    let x = field is_digit 88 rest in
    let y = field is_digit 89 x.1 in
    let i = field is_number_char 73 y.1 in
    let j = field is_number_char 74 i.1 in
    repeats_written text x.0 y.0 i.0 j.0 j.1 (λ a b c d ea eb ec ed none.
    let last : i.1 ≡ 74 ∷ d = field_is is_number_char 74 i.1 d ed ∙ (λ k. 74 ∷ (d ++ none k)) ∙ ap (λ (l : List ℕ). 74 ∷ l) (append-nil d) in
    let third : y.1 ≡ 73 ∷ (c ++ 74 ∷ d) = field_is is_number_char 73 y.1 c ec ∙ ap (λ (l : List ℕ). 73 ∷ (c ++ l)) last in
    let second : x.1 ≡ 89 ∷ (b ++ 73 ∷ (c ++ 74 ∷ d)) = field_is is_digit 89 x.1 b eb ∙ ap (λ (l : List ℕ). 89 ∷ (b ++ l)) third in
    is ∙ ap (λ (l : List ℕ). 83 ∷ 82 ∷ l) (field_is is_digit 88 rest a ea ∙ ap (λ (l : List ℕ). 88 ∷ (a ++ l)) second ∙ ap (λ (l : List ℕ). 88 ∷ l) (sym (block_fields_are a b c d))))

no_start : (text : List ℕ) → RowIsWritten text (repeat_start [])
unfolding repeat_start RowIsWritten
no_start text = tt

repeat_written : (text : List ℕ) → RowIsWritten text (repeat_row text)
unfolding repeat_row
repeat_written text = row_literal text (codes "SR") (Ok (RepeatEnd ∷ [])) (repeat_start (unwrap_or (strip_prefix (codes "SR") text) [])) (fixed_written _ _ (3, omega arith, refl)) (by (strip_prefix (codes "SR") text) refl)
  where
    by : (o : Option (List ℕ)) → strip_prefix (codes "SR") text ≡ o → RowIsWritten text (repeat_start (unwrap_or o []))
    by None e = no_start text
    by (Some rest) e = start_written text rest (begins (codes "SR") text rest e)

-- ---- attributes

file_written : (text : List ℕ) → RowIsWritten text (option_map file_attribute (strip_prefix (codes "TF") text))
unfolding file_attribute
file_written text = row_map text file_attribute (strip_prefix (codes "TF") text) (λ rest e.
    cond_written text (is_negative_image rest) (Err NegativeImage) (Ok (Attribute kinds.File rest ∷ [])) (λ _. refusal_written text NegativeImage) (λ n. one_written text (Attribute kinds.File rest) (begins (codes "TF") text rest e, n)))

aperture_written : (text : List ℕ) → RowIsWritten text (option_map (attribute kinds.Aperture) (strip_prefix (codes "TA") text))
unfolding attribute
aperture_written text = row_map text (attribute kinds.Aperture) (strip_prefix (codes "TA") text) (λ rest e. one_written text (Attribute kinds.Aperture rest) (begins (codes "TA") text rest e))

object_written : (text : List ℕ) → RowIsWritten text (option_map (attribute kinds.Object) (strip_prefix (codes "TO") text))
unfolding attribute
object_written text = row_map text (attribute kinds.Object) (strip_prefix (codes "TO") text) (λ rest e. one_written text (Attribute kinds.Object rest) (begins (codes "TO") text rest e))

removal_written : (text : List ℕ) → RowIsWritten text (option_map removal (strip_prefix (codes "TD") text))
unfolding removal
removal_written text = row_map text removal (strip_prefix (codes "TD") text) (λ rest e. one_written text (Remove rest) (begins (codes "TD") text rest e))

-- ---- older parameters

value_is : (v : ℤ) (r : Result ℤ Reason) → has_value v r ≡ true → r ≡ Ok v
value_is v (Ok d) h = ap (λ (z : ℤ). Ok z) ((Decides-int_eq d v).0 h)
value_is v (Err e) h = absurd cc

may_be : (v : ℤ) (run : Option (List ℕ)) → is_omitted_or v run ≡ true → IsOmittedOr v run
may_be v None h = inl refl
may_be v (Some run) h = inr (ap (λ (r : Result ℤ Reason). Some r) (value_is v (parse_decimal run) h))

rotation_written : (text : List ℕ) → is_zero_rotation text ≡ true → MeaningIsWritten text (Ok [])
rotation_written text h =
    let k = both_true (is_some (strip_prefix (codes "IR") text)) (is_omitted_or (pos 0) (strip_prefix (codes "IR") text)) h in
    let r = some_of (strip_prefix (codes "IR") text) k.0 in
    let zero_is : has_value (pos 0) (parse_decimal r.0) ≡ true = ap (is_omitted_or (pos 0)) (sym r.1) ∙ k.1 in
    idle_written text (inr (inl (r.0, begins (codes "IR") text r.0 r.1, value_is (pos 0) (parse_decimal r.0) zero_is)))

-- one of five tests
one_of : (a b c d e : Bool) (P : Type 0) → (a || (b || (c || (d || e)))) ≡ true → (a ≡ true → P) → (b ≡ true → P) → (c ≡ true → P) → (d ≡ true → P) → (e ≡ true → P) → P
one_of true b c d e P h f g k l m = f refl
one_of false true c d e P h f g k l m = g refl
one_of false false true d e P h f g k l m = k refl
one_of false false false true e P h f g k l m = l refl
one_of false false false false e P h f g k l m = m h

literal_written : (text form : List ℕ) → MeaningIsWritten form (Ok []) → bytes_eq text form ≡ true → MeaningIsWritten text (Ok [])
literal_written text form h same = subst (λ (t : List ℕ). MeaningIsWritten t (Ok [])) (sym (bytes_are text form same)) h

no_effect_written : (text : List ℕ) → RowIsWritten text (no_effect_piece_row text)
unfolding no_effect_piece_row
no_effect_written text =
    let a = bytes_eq text (codes "IPPOS") in
    let b = is_zero_rotation text in
    let c = bytes_eq text (codes "ASAXBY") in
    let d = is_some (strip_prefix (codes "IN") text) in
    let e = is_some (strip_prefix (codes "LN") text) in
    row_cond text (a || (b || (c || (d || e)))) (Some (Ok [])) None (λ h. row_is text (Ok []) (one_of a b c d e (MeaningIsWritten text (Ok [])) h
    (literal_written text (codes "IPPOS") (fixed_written _ _ (8, omega arith, refl)))
    (rotation_written text)
    (literal_written text (codes "ASAXBY") (fixed_written _ _ (9, omega arith, refl)))
    (λ s. let r = some_of (strip_prefix (codes "IN") text) s in idle_written text (inl (r.0, inl (begins (codes "IN") text r.0 r.1))))
    (λ s. let r = some_of (strip_prefix (codes "LN") text) s in idle_written text (inl (r.0, inr (begins (codes "LN") text r.0 r.1))))))
    (λ _. no_row text)

nothing_left : (xs : List ℕ) → length xs ≡ 0 → xs ≡ []
nothing_left [] h = refl
nothing_left (x ∷ xs) h = absurd (omega arith)

-- the fields of both axes, and no byte after them
axes_are : (text : List ℕ) → (let a = field is_number_char 65 text in let b = field is_number_char 66 a.1 in length b.1 ≡ 0 → text ≡ grammar.field (codes "A") a.0 ++ grammar.field (codes "B") b.0)
axes_are text none =
    let a = field is_number_char 65 text in
    let b = field is_number_char 66 a.1 in
    field_whole is_number_char 65 text ∙ ap (λ (l : List ℕ). grammar.field (codes "A") a.0 ++ l)
    (field_whole is_number_char 66 a.1 ∙ ap (λ (l : List ℕ). grammar.field (codes "B") b.0 ++ l) (nothing_left b.1 none) ∙ append-nil (grammar.field (codes "B") b.0))

neutral_axes : (v : ℤ) (text : List ℕ) → axes_equal v text ≡ true → (a b : Option (List ℕ)) × (text ≡ grammar.field (codes "A") a ++ grammar.field (codes "B") b) × IsOmittedOr v a × IsOmittedOr v b
unfolding axes_equal
neutral_axes v text h =
    let a = field is_number_char 65 text in
    let b = field is_number_char 66 a.1 in
    let k = both_true (eqb (length b.1) 0) (is_omitted_or v a.0 && is_omitted_or v b.0) h in
    let m = both_true (is_omitted_or v a.0) (is_omitted_or v b.0) k.1 in
    (a.0, b.0, axes_are text (eqb-true (length b.1) 0 k.0), may_be v a.0 m.0, may_be v b.0 m.1)

no_effect_is : (prefix : List ℕ) (v : ℤ) (text : List ℕ) → has_no_effect prefix v text ≡ true → (rest : List ℕ) × (strip_prefix prefix text ≡ Some rest) × (axes_equal v rest ≡ true)
no_effect_is prefix v text h = by (strip_prefix prefix text) refl h
  where
    by : (o : Option (List ℕ)) → strip_prefix prefix text ≡ o → unwrap_or (option_map (axes_equal v) o) false ≡ true → (rest : List ℕ) × (strip_prefix prefix text ≡ Some rest) × (axes_equal v rest ≡ true)
    by None e k = absurd cc
    by (Some rest) e k = (rest, e, k)

neutral_written : (letters : List ℕ) (v : ℤ) (text : List ℕ) → Contains neutral_values (letters, v) → has_no_effect letters v text ≡ true → MeaningIsWritten text (Ok [])
neutral_written letters v text c h =
    let r = no_effect_is letters v text h in
    let f = neutral_axes v r.0 r.2 in
    let whole : text ≡ letters ++ grammar.field (codes "A") f.0 ++ grammar.field (codes "B") f.1 =
    begins letters text r.0 r.1 ∙ ap (λ (l : List ℕ). letters ++ l) f.2 ∙ sym (append_assoc letters (grammar.field (codes "A") f.0) (grammar.field (codes "B") f.1)) in
    idle_written text (inr (inr (letters, v, f.0, f.1, c, whole, f.3, f.4)))

neutral_axes_written : (text : List ℕ) → RowIsWritten text (neutral_axes_row text)
unfolding neutral_axes_row
neutral_axes_written text =
    let a = has_no_effect (codes "OF") (pos 0) text in
    let b = has_no_effect (codes "MI") (pos 0) text in
    let c = has_no_effect (codes "SF") (pos 100000000) text in
    row_cond text (a || (b || c)) (Some (Ok [])) None (λ h. row_is text (Ok []) (by a b c refl refl refl h)) (λ _. no_row text)
  where
    by : (a b c : Bool) → has_no_effect (codes "OF") (pos 0) text ≡ a → has_no_effect (codes "MI") (pos 0) text ≡ b → has_no_effect (codes "SF") (pos 100000000) text ≡ c → (a || (b || c)) ≡ true → MeaningIsWritten text (Ok [])
    by true b c e f g h = neutral_written (codes "OF") (pos 0) text (0, omega arith, refl) e
    by false true c e f g h = neutral_written (codes "MI") (pos 0) text (1, omega arith, refl) f
    by false false c e f g h = neutral_written (codes "SF") (pos 100000000) text (2, omega arith, refl) (g ∙ h)

-- ---- apertures

-- the name, and the text after a comma
comma_parts : (text : List ℕ) → text ≡ before_comma text ++ grammar.field (codes ",") (after_comma text)
comma_parts text = by (ltb (prefix_len (λ b. not (eqb b 44)) text) (length text)) refl
  where
    by : (t : Bool) → ltb (prefix_len (λ b. not (eqb b 44)) text) (length text) ≡ t → text ≡ take (prefix_len (λ b. not (eqb b 44)) text) text ++ grammar.field (codes ",") (cond t (Some (drop (prefix_len (λ b. not (eqb b 44)) text + 1) text)) None)
    by true less =
        let k = prefix_len (λ b. not (eqb b 44)) text in
        let lt : k < length text = ltb-true k (length text) less in
        let comma : get_or text k 0 ≡ 44 = eqb-true (get_or text k 0) 44 (not_false (eqb (get_or text k 0) 44) (prefix_len_stops (λ b. not (eqb b 44)) text 0 lt)) in
        sym (take-append-drop k text) ∙ ap (λ (l : List ℕ). take k text ++ l) (drop_more text k 0 lt ∙ ap (λ (b : ℕ). b ∷ drop (k + 1) text) comma)
    by false more =
        let k = prefix_len (λ b. not (eqb b 44)) text in
        let le : length text ≤ k = ltb-false k (length text) more in
        sym (append-nil (take k text) ∙ take_all k text le)

-- the table of standard apertures
standard_listed : (name : List ℕ) (aperture : Standard) → standard_template name ≡ Some aperture → Contains standards (name, aperture, min_sizes aperture, max_sizes aperture)
standard_listed name aperture e = by (bytes_eq name (codes "C")) (bytes_eq name (codes "R")) (bytes_eq name (codes "O")) (bytes_eq name (codes "P")) refl refl refl refl e
  where
    same : (s t : Standard) → Some s ≡ Some t → s ≡ t
    same s t h = cc

    listed : (form : List ℕ) (s : Standard) → Some s ≡ Some aperture → bytes_eq name form ≡ true → Contains standards (form, s, min_sizes s, max_sizes s) → Contains standards (name, aperture, min_sizes aperture, max_sizes aperture)
    listed form s k n h =
        subst (λ (t : List ℕ). Contains standards (t, aperture, min_sizes aperture, max_sizes aperture)) (sym (bytes_are name form n)) (subst (λ (t : Standard). Contains standards (form, t, min_sizes t, max_sizes t)) (same s aperture k) h)

    by : (a b c d : Bool) → bytes_eq name (codes "C") ≡ a → bytes_eq name (codes "R") ≡ b → bytes_eq name (codes "O") ≡ c → bytes_eq name (codes "P") ≡ d → cond a (Some Circle) (cond b (Some Rectangle) (cond c (Some Obround) (cond d (Some Polygon) None))) ≡ Some aperture
        → Contains standards (name, aperture, min_sizes aperture, max_sizes aperture)
    by true b c d p q r s h = listed (codes "C") Circle h p (0, omega arith, refl)
    by false true c d p q r s h = listed (codes "R") Rectangle h q (1, omega arith, refl)
    by false false true d p q r s h = listed (codes "O") Obround h r (2, omega arith, refl)
    by false false false true p q r s h = listed (codes "P") Polygon h s (3, omega arith, refl)
    by false false false false p q r s h = absurd cc

not_standard : (name : List ℕ) → standard_template name ≡ None → All (λ s. s.0 ≢ name) standards
not_standard name e = All-from_recursion (λ s. s.0 ≢ name) standards (other (codes "C") refl, (other (codes "R") refl, (other (codes "O") refl, (other (codes "P") refl, tt))))
  where
    other : (form : List ℕ) → is_some (standard_template form) ≡ true → form ≢ name
    other form some same = absurd (let x : true ≡ false = sym some ∙ ap (λ (t : List ℕ). is_some (standard_template t)) same ∙ ap is_some e in cc)

sizes_read : (runs : List (List ℕ)) (sizes : List ℤ) → all_values (map parse_decimal runs) ≡ Ok sizes → map parse_decimal runs ≡ map Ok sizes
sizes_read [] sizes e = let same : [] ≡ sizes = cc in ap (map Ok) same
sizes_read (run ∷ runs) sizes e =
    let b = bind_ok (both (parse_decimal run) (all_values (map parse_decimal runs))) (λ p. Ok (p.0 ∷ p.1)) sizes e in
    let o = both_ok (parse_decimal run) (all_values (map parse_decimal runs)) b.0 b.1 in
    let same : b.0.0 ∷ b.0.1 ≡ sizes = let k : Ok (b.0.0 ∷ b.0.1) ≡ Ok sizes = b.2 in cc in
    (λ i. o.0 i ∷ sizes_read runs b.0.1 o.1 i) ∙ ap (map Ok) same

standard_is : (name : List ℕ) (aperture : Standard) (parameters : Option (List ℕ)) (sizes : List ℤ) → standard_template name ≡ Some aperture → sizes_of aperture parameters ≡ Ok sizes → IsTemplate (name ++ grammar.field (codes ",") parameters) (templates.Standard aperture sizes)
unfolding sizes_of
standard_is name aperture None sizes t e = absurd cc
standard_is name aperture (Some text) sizes t e =
    let runs = split_by 88 text in
    let a = allowed (are_sizes aperture runs) (all_values (map parse_decimal runs)) sizes BadWord e in
    let few = both_true (leb (min_sizes aperture) (length runs)) (leb (length runs) (max_sizes aperture)) (both_true (list_all (list_all is_number_char) runs) (leb (min_sizes aperture) (length runs) && leb (length runs) (max_sizes aperture)) a.0).1 in
    let whole : name ++ (codes "," ++ text) ≡ name ++ codes "," ++ join_with_byte 88 runs = ap (λ (l : List ℕ). name ++ (codes "," ++ l)) (sym (join_with_byte-slice_split 88 text)) ∙ sym (append_assoc name (codes ",") (join_with_byte 88 runs)) in
    (name, min_sizes aperture, max_sizes aperture, runs, standard_listed name aperture t, whole, leb-true _ _ few.0, leb-true _ _ few.1, sizes_read runs sizes a.1)

number_is : (digits : List ℕ) (n : ℕ) → aperture_number digits ≡ Ok n → (nat_of digits ≡ Ok n) × (10 ≤ n)
unfolding aperture_number
number_is digits n e =
    let b = bind_ok (nat_of digits) (λ m. cond (ltb m 10) (Err BadNumber) (Ok m)) n e in
    let r = refused (ltb b.0 10) (Ok b.0) n BadNumber b.2 in
    let same : b.0 ≡ n = let o : Ok b.0 ≡ Ok n = r.1 in cc in
    (b.1 ∙ ap (λ (m : ℕ). Ok m) same, omega (arith, ltb-false b.0 10 r.0, same))

template_written : (text digits name : List ℕ) (aperture : Option Standard) (parameters : Option (List ℕ)) → text ≡ codes "ADD" ++ digits ++ (name ++ grammar.field (codes ",") parameters) → is_name name ≡ true → standard_template name ≡ aperture → MeaningIsWritten text (define_template digits name aperture parameters)
unfolding define_named define_standard
template_written text digits name None parameters is named none = bind_written text (aperture_number digits) (λ n. Ok (Define n (templates.Named name parameters) ∷ [])) (λ n e.
    let k = number_is digits n e in
    one_written text (Define n (templates.Named name parameters)) (digits, name ++ grammar.field (codes ",") parameters, k.0, k.1, ((named, not_standard name none), refl), is))
template_written text digits name (Some aperture) parameters is named some = bind_written text (both (aperture_number digits) (sizes_of aperture parameters)) (λ p. Ok (Define p.0 (templates.Standard aperture p.1) ∷ [])) (λ p e.
    let o = both_ok (aperture_number digits) (sizes_of aperture parameters) p e in
    let k = number_is digits p.0 o.0 in
    one_written text (Define p.0 (templates.Standard aperture p.1)) (digits, name ++ grammar.field (codes ",") parameters, k.0, k.1, standard_is name aperture parameters p.1 some o.1, is))

define_written : (text digits rest : List ℕ) → text ≡ codes "ADD" ++ digits ++ rest → MeaningIsWritten text (define digits rest)
unfolding define
define_written text digits rest is =
    cond_written text (is_name (before_comma rest)) (define_template digits (before_comma rest) (standard_template (before_comma rest)) (after_comma rest)) (Err BadWord)
    (λ named. template_written text digits (before_comma rest) (standard_template (before_comma rest)) (after_comma rest) (is ∙ ap (λ (l : List ℕ). codes "ADD" ++ digits ++ l) (comma_parts rest)) named refl)
    (λ _. refusal_written text BadWord)

defines_written : (text : List ℕ) → RowIsWritten text (define_row text)
unfolding definition
defines_written text = row_map text definition (strip_prefix (codes "ADD") text) (λ rest e.
    let k = prefix_len is_digit rest in
    define_written text (take k rest) (drop k rest) (begins (codes "ADD") text rest e ∙ ap (λ (l : List ℕ). codes "ADD" ++ l) (sym (take-append-drop k rest))))

-- ---- macros

-- a byte is the one that divides the pieces, or not
either_way : (t r : Bool) → r ≡ true → ((not t || t) && r) ≡ true
either_way true r h = h
either_way false r h = h

all_divided : (at : ℕ) (text : List ℕ) → list_all (λ b. not (eqb b at) || eqb b at) text ≡ true
all_divided at [] = refl
all_divided at (b ∷ bs) = either_way (eqb b at) (list_all (λ c. not (eqb c at) || eqb c at) bs) (all_divided at bs)

has_no : (at : ℕ) (text : List ℕ) → list_all (λ b. not (eqb b at)) text ≡ true → HasNo at text
has_no at [] h = refl
has_no at (b ∷ bs) h = let k = both_true (not (eqb b at)) (list_all (λ c. not (eqb c at)) bs) h in λ i. not_true (eqb b at) k.0 i || has_no at bs k.1 i

all_have_no : (at : ℕ) (texts : List (List ℕ)) → list_all (list_all (λ b. not (eqb b at))) texts ≡ true → AllByRecursion (HasNo at) texts
all_have_no at [] h = tt
all_have_no at (text ∷ texts) h = let k = both_true (list_all (λ b. not (eqb b at)) text) (list_all (list_all (λ b. not (eqb b at))) texts) h in (has_no at text k.0, all_have_no at texts k.1)

is_none : {A : Type 0} (o : Option A) → not (is_some o) ≡ true → o ≡ None
is_none None h = refl
is_none (Some x) h = absurd cc

macro_of_written : (parts : List (List ℕ)) (cs : List Command) → AllByRecursion (HasNo 42) parts → macro_of parts ≡ Ok cs → IsMacro (codes "AM" ++ join_with_byte 42 parts) cs
macro_of_written [] cs h e = absurd cc
macro_of_written (name ∷ pieces) cs h e =
    let g = guarded (is_name name && not (is_some (standard_template name))) (Macro name pieces ∷ []) cs BadWord e in
    let k = both_true (is_name name) (not (is_some (standard_template name))) g.0 in
    (name, pieces, (k.0, not_standard name (is_none (standard_template name) k.1)), All-from_recursion (HasNo 42) pieces h.1, refl, sym g.1)

-- a text is divided into parts without the byte
pub parts_without : (text : List ℕ) → AllByRecursion (HasNo 42) (split_by 42 text)
parts_without text = all_have_no 42 (split_by 42 text) (parts_all (λ b. not (eqb b 42)) 42 text ∙ all_divided 42 text)

macro_written : (rest : List ℕ) (cs : List Command) → macro_definition rest ≡ Ok cs → IsMacro (codes "AM" ++ rest) cs
unfolding macro_definition
macro_written rest cs e =
    subst (λ (t : List ℕ). IsMacro (codes "AM" ++ t) cs) (join_with_byte-slice_split 42 rest)
    (macro_of_written (split_by 42 rest) cs (parts_without rest) e)

-- a text that begins `AM` fits no row before that of macros
pub macro_first : (rest : List ℕ) → first_match (pieces (65 ∷ 77 ∷ rest)) ≡ macro_definition rest
unfolding refused_format_row format_row unit_piece_row
macro_first rest = refl

-- ---- all rows

rows_written : (text : List ℕ) → strip_prefix (codes "AM") text ≡ None → MeaningIsWritten text (first_match (pieces text))
rows_written text none = first_written text (pieces text) (
  refused_format_written text,
  (
    format_row_written text,
    (
      unit_written text,
      (
        defines_written text,
        (
          row_map text macro_definition (strip_prefix (codes "AM") text) (λ rest e. absurd (let x : None ≡ Some rest = sym none ∙ e in cc)),
          (
            polarity_written text,
            (
              mirror_written text,
              (
                transform_written text,
                (
                  repeat_written text,
                  (
                    file_written text,
                    (
                      aperture_written text,
                      (
                        object_written text,
                        (removal_written text, (no_effect_written text, (neutral_axes_written text, (negative_written text, (deprecated_written text, (block_aperture_written text, tt)))))),
                      ),
                    ),
                  ),
                ),
              ),
            ),
          ),
        ),
      ),
    ),
  ),
)

-- what the rows answer, and whether the text begins `AM` or has `*`
piece_by : (text : List ℕ) (cs : List Command) (t : Bool) (o : Option (List ℕ)) → list_any (λ b. eqb b 42) text ≡ t → strip_prefix (codes "AM") text ≡ o → cond (t && not (is_some o)) (Err SeveralInOne) (first_match (pieces text)) ≡ Ok cs → IsPiece text cs
piece_by text cs t (Some rest) star am e =
    let is : text ≡ codes "AM" ++ rest = begins (codes "AM") text rest am in
    let read : first_match (pieces text) ≡ Ok cs = (refused (t && false) (first_match (pieces text)) cs SeveralInOne e).1 in
    inl (subst (λ (x : List ℕ). IsMacro x cs) (sym is) (macro_written rest cs (sym (macro_first rest) ∙ ap (λ (x : List ℕ). first_match (pieces x)) (sym is) ∙ read)))
piece_by text cs true None star am e = absurd cc
piece_by text cs false None star am e = inr (star, answer_written text (first_match (pieces text)) cs (rows_written text am) e)

-- what a piece answers is so written
pub answers_are_written : AnswersAreWritten
unfolding piece
answers_are_written text cs e = piece_by text cs (list_any (λ b. eqb b 42) text) (strip_prefix (codes "AM") text) refl refl e

-- so is what stands between two `%`, where its text before the last `*` is so written
pub with_end_written : (reads : List ℕ → Meaning) (Is : List ℕ → List Command → Type 0) → ((text : List ℕ) (cs : List Command) → reads text ≡ Ok cs → Is text cs) → (item : List ℕ) (cs : List Command)
    → cond (bytes_eq (last_byte item) (codes "*")) (reads (before_last item)) (Err BadWord) ≡ Ok cs → (text : List ℕ) × (item ≡ text ++ codes "*") × Is text cs
with_end_written reads Is written item cs e =
    let a = allowed (bytes_eq (last_byte item) (codes "*")) (reads (before_last item)) cs BadWord e in
    (before_last item, sym (take-append-drop (length item - 1) item) ∙ ap (λ (l : List ℕ). before_last item ++ l) (bytes_are (last_byte item) (codes "*") a.0), written (before_last item) cs a.1)
