-- What is written by the grammar of extended items, the rows answer.
use Rattle.gerber_commands.proofs.Common.{◌≡◌, ◌≢◌, inl, inr, ℕ, ◌+◌, ◌-◌, ◌<◌, ◌≤◌, Bool, true, false, cond, not, ◌||◌, ◌&&◌, eqb, leb, ltb, List, [], ◌∷◌, ◌++◌, length, take, drop, map, Option, Some, None, is_some, Result, Ok, Err, refl, sym, ap, ◌∙◌, arith, append_assoc, codes, decimal, take_while, option_map, option_or, list_any, list_all, prefix_len, AllByRecursion, join_with_byte, bytes_eq, length-append, take_at, drop_at, All-from_recursion, All-contains, recursion_from_All, le-leb, lt-ltb, le-ltb, nat_tests, Decides-int_eq, decimal_digit, Reason, SeveralInOne, NegativeImage, BadWord, BadNumber, ◌>>=◌, both, is_digit, is_number_char, strip_prefix, split_by, Command, FormatIs, Define, Macro, Turn, Scale, Repeat, Attribute, Remove, Format, StepRepeat, Standard, Circle, Rectangle, Obround, Polygon, Meaning, Row, first_match, is_negative_image, last_byte, before_last, format, is_name_start, is_name_byte, standard_template, min_sizes, max_sizes, all_values, are_sizes, define_template, before_comma, after_comma, define_row, macro_of, macro_row, run_after, repeat_fields, has_value, is_omitted_or, pieces_from_attributes, pieces_from_polarity, pieces, HasNo, fixed_pieces, standards, IsMacroName, IsTemplate, SpellsOne, IsOmittedOr, neutral_values, HasNoEffect, WrittenIsAnswered, PiecesSpellOneList, and_true, both_true, and_false, list_all_weaker, prefix_len_append, take_while_append, drop_run_append, take_while_all, drop_run_all}
use Rattle.std.proofs.Common.{ℤ, pos}
use Rattle.std.specs.Prelude.{All}
use Rattle.std.proofs.lemmas.List.{append-nil}
use Rattle.grid_units.specs.Numbers.{parse_decimal}
use Rattle.gerber_commands.specs.declared.command.AttributeKind.TheVariants as kinds
use Rattle.gerber_commands.specs.declared.command.Template.{Template}
use Rattle.gerber_commands.specs.declared.command.Template.TheVariants as templates
use Rattle.gerber_commands.specs.Numbers.{nat_of}
use Rattle.gerber_commands.specs.Rows.{field}
use Rattle.gerber_commands.specs.Pieces.{refused_format_row, format_row, unit_piece_row, is_name, sizes_of, aperture_number, define_standard, define_named, define, definition, macro_definition, polarity_row, mirror_row, turn, scale, transform_row, block_fields, repeat, repeat_start, repeat_row, file_attribute, attribute, removal, axes_equal, no_effect_piece_row, neutral_axes_row, negative_row, deprecated_piece_row, block_aperture_row, piece}
use Rattle.gerber_commands.specs.PieceGrammar as grammar
use Rattle.gerber_commands.proofs.RowLemmas.{bytes_are, block_fields_are, IsPlain}
use Rattle.gerber_commands.proofs.NumberRuns.{nat_digits, decimal_numbers, parts_divided, none_passes, no_x}
use Rattle.gerber_commands.proofs.WrittenPieces.{macro_first}

-- ---- pieces that are always written alike

fixed_answered : AllByRecursion (λ f. first_match (pieces f.0) ≡ Ok f.1) fixed_pieces
unfolding refused_format_row format_row unit_piece_row polarity_row mirror_row transform_row repeat_row repeat_start no_effect_piece_row
fixed_answered = (refl, (refl, (refl, (refl, (refl, (refl, (refl, (refl, (refl, (refl, tt))))))))))

-- ---- turns, scales, attributes

turn_answered : (run : List ℕ) (v : ℤ) → parse_decimal run ≡ Ok v → first_match (pieces (76 ∷ 82 ∷ run)) ≡ Ok (Turn v ∷ [])
unfolding refused_format_row format_row unit_piece_row polarity_row mirror_row transform_row turn
turn_answered run v h =
    let w : List ℕ = 76 ∷ 82 ∷ run in
    ap (λ t. first_match (option_or (option_map turn (cond t (Some run) None)) (option_map scale (run_after (codes "LS") w)) ∷ repeat_row w ∷ pieces_from_attributes w)) (decimal_numbers run v h)
    ∙ (λ i. h i >>= λ degrees. Ok (Turn degrees ∷ []))

scale_answered : (run : List ℕ) (v : ℤ) → parse_decimal run ≡ Ok v → first_match (pieces (76 ∷ 83 ∷ run)) ≡ Ok (Scale v ∷ [])
unfolding refused_format_row format_row unit_piece_row polarity_row mirror_row transform_row scale
scale_answered run v h =
    let w : List ℕ = 76 ∷ 83 ∷ run in
    ap (λ t. first_match (option_map scale (cond t (Some run) None) ∷ repeat_row w ∷ pieces_from_attributes w)) (decimal_numbers run v h)
    ∙ (λ i. h i >>= λ factor. Ok (Scale factor ∷ []))

file_answered : (text : List ℕ) → is_negative_image text ≡ false → first_match (pieces (84 ∷ 70 ∷ text)) ≡ Ok (Attribute kinds.File text ∷ [])
unfolding refused_format_row format_row unit_piece_row polarity_row mirror_row transform_row repeat_row repeat_start file_attribute
file_answered text h = ap (λ t. cond t (Err NegativeImage) (Ok (Attribute kinds.File text ∷ []))) h

aperture_answered : (text : List ℕ) → first_match (pieces (84 ∷ 65 ∷ text)) ≡ Ok (Attribute kinds.Aperture text ∷ [])
unfolding refused_format_row format_row unit_piece_row polarity_row mirror_row transform_row repeat_row repeat_start attribute
aperture_answered text = refl

object_answered : (text : List ℕ) → first_match (pieces (84 ∷ 79 ∷ text)) ≡ Ok (Attribute kinds.Object text ∷ [])
unfolding refused_format_row format_row unit_piece_row polarity_row mirror_row transform_row repeat_row repeat_start attribute
object_answered text = refl

removal_answered : (text : List ℕ) → first_match (pieces (84 ∷ 68 ∷ text)) ≡ Ok (Remove text ∷ [])
unfolding refused_format_row format_row unit_piece_row polarity_row mirror_row transform_row repeat_row repeat_start removal
removal_answered text = refl

-- ---- older parameters

in_answered : (name : List ℕ) → first_match (pieces (73 ∷ 78 ∷ name)) ≡ Ok []
unfolding refused_format_row format_row unit_piece_row polarity_row mirror_row transform_row repeat_row repeat_start no_effect_piece_row
in_answered name = refl

ln_answered : (name : List ℕ) → first_match (pieces (76 ∷ 78 ∷ name)) ≡ Ok []
unfolding refused_format_row format_row unit_piece_row polarity_row mirror_row transform_row repeat_row repeat_start no_effect_piece_row
ln_answered name = refl

has : (v : ℤ) (r : Result ℤ Reason) → r ≡ Ok v → has_value v r ≡ true
has v r e = ap (has_value v) e ∙ (Decides-int_eq v v).1 refl

rotation_answered : (run : List ℕ) → parse_decimal run ≡ Ok (pos 0) → first_match (pieces (73 ∷ 82 ∷ run)) ≡ Ok []
unfolding refused_format_row format_row unit_piece_row polarity_row mirror_row transform_row repeat_row repeat_start no_effect_piece_row
rotation_answered run h =
    let w : List ℕ = 73 ∷ 82 ∷ run in
    ap (λ t. first_match (cond {A = Row} (t || false) (Some (Ok [])) None ∷ neutral_axes_row w ∷ negative_row w ∷ deprecated_piece_row w ∷ block_aperture_row w ∷ [])) (has (pos 0) (parse_decimal run) h)

-- a byte may begin no run of a number
abbrev Ends : List ℕ → Type 0
Ends rest = prefix_len is_number_char rest ≡ 0

abbrev Fielded : Type 0
Fielded = Option (List ℕ) × List ℕ

run_field : (p : ℕ → Bool) (xs rest : List ℕ) → list_all p xs ≡ true → prefix_len p rest ≡ 0 → (let r : Fielded = (Some (take_while p (xs ++ rest)), drop (prefix_len p (xs ++ rest)) (xs ++ rest)) in let s : Fielded = (Some xs, rest) in r ≡ s)
run_field p xs rest h k = λ i. (Some (take_while_append p xs rest h k i), drop_run_append p xs rest h k i)

last_field : (p : ℕ → Bool) (xs : List ℕ) → list_all p xs ≡ true → (let r : Fielded = (Some (take_while p xs), drop (prefix_len p xs) xs) in let s : Fielded = (Some xs, []) in r ≡ s)
last_field p xs h = λ i. (Some (take_while_all p xs h i), drop_run_all p xs h i)

may_numbers : (v : ℤ) (run : List ℕ) → IsOmittedOr v (Some run) → parse_decimal run ≡ Ok v
may_numbers v run (inl h) = absurd cc
may_numbers v run (inr h) = cc

may_omitted : (v : ℤ) (run : Option (List ℕ)) → IsOmittedOr v run → is_omitted_or v run ≡ true
may_omitted v None m = refl
may_omitted v (Some run) m = has v (parse_decimal run) (may_numbers v run m)

first_axis : (v : ℤ) (a b : Option (List ℕ)) → IsOmittedOr v a → (let s : Fielded = (a, grammar.field (codes "B") b) in field is_number_char 65 (grammar.field (codes "A") a ++ grammar.field (codes "B") b) ≡ s)
first_axis v None None m = refl
first_axis v None (Some y) m = refl
first_axis v (Some x) None m = run_field is_number_char x [] (decimal_numbers x v (may_numbers v x m)) refl
first_axis v (Some x) (Some y) m = run_field is_number_char x (66 ∷ y) (decimal_numbers x v (may_numbers v x m)) refl

second_axis : (v : ℤ) (b : Option (List ℕ)) → IsOmittedOr v b → (let s : Fielded = (b, []) in field is_number_char 66 (grammar.field (codes "B") b) ≡ s)
second_axis v None m = refl
second_axis v (Some y) m = last_field is_number_char y (decimal_numbers y v (may_numbers v y m))

axes_answered : (v : ℤ) (a b : Option (List ℕ)) → IsOmittedOr v a → IsOmittedOr v b → axes_equal v (grammar.field (codes "A") a ++ grammar.field (codes "B") b) ≡ true
unfolding axes_equal
axes_answered v a b m n =
    ap (λ (f : Fielded). let g = field is_number_char 66 f.1 in eqb (length g.1) 0 && (is_omitted_or v f.0 && is_omitted_or v g.0)) (first_axis v a b m)
    ∙ ap (λ (g : Fielded). eqb (length g.1) 0 && (is_omitted_or v a && is_omitted_or v g.0)) (second_axis v b n)
    ∙ and_true (is_omitted_or v a) (is_omitted_or v b) (may_omitted v a m) (may_omitted v b n)

offset_answered : (text : List ℕ) → axes_equal (pos 0) text ≡ true → first_match (pieces (79 ∷ 70 ∷ text)) ≡ Ok []
unfolding refused_format_row format_row unit_piece_row polarity_row mirror_row transform_row repeat_row repeat_start no_effect_piece_row neutral_axes_row
offset_answered text h =
    let w : List ℕ = 79 ∷ 70 ∷ text in
    ap (λ t. first_match (cond {A = Row} (t || false) (Some (Ok [])) None ∷ negative_row w ∷ deprecated_piece_row w ∷ block_aperture_row w ∷ [])) h

mirrored_answered : (text : List ℕ) → axes_equal (pos 0) text ≡ true → first_match (pieces (77 ∷ 73 ∷ text)) ≡ Ok []
unfolding refused_format_row format_row unit_piece_row polarity_row mirror_row transform_row repeat_row repeat_start no_effect_piece_row neutral_axes_row
mirrored_answered text h =
    let w : List ℕ = 77 ∷ 73 ∷ text in
    ap (λ t. first_match (cond {A = Row} (t || false) (Some (Ok [])) None ∷ negative_row w ∷ deprecated_piece_row w ∷ block_aperture_row w ∷ [])) h

scaled_answered : (text : List ℕ) → axes_equal (pos 100000000) text ≡ true → first_match (pieces (83 ∷ 70 ∷ text)) ≡ Ok []
unfolding refused_format_row format_row unit_piece_row polarity_row mirror_row transform_row repeat_row repeat_start no_effect_piece_row neutral_axes_row
scaled_answered text h =
    let w : List ℕ = 83 ∷ 70 ∷ text in
    ap (λ t. first_match (cond {A = Row} t (Some (Ok [])) None ∷ negative_row w ∷ deprecated_piece_row w ∷ block_aperture_row w ∷ [])) h

-- an older parameter of both axes is answered, whatever stands on them
abbrev IsNeutral : List ℕ × ℤ → Type 0
IsNeutral n = (text : List ℕ) → axes_equal n.1 text ≡ true → first_match (pieces (n.0 ++ text)) ≡ Ok []

neutral_answered : AllByRecursion IsNeutral neutral_values
neutral_answered = (offset_answered, (mirrored_answered, (scaled_answered, tt)))

idle_answered : (text : List ℕ) → HasNoEffect text → first_match (pieces text) ≡ Ok []
idle_answered text (inl (name, inl is)) = ap (λ (t : List ℕ). first_match (pieces t)) is ∙ in_answered name
idle_answered text (inl (name, inr is)) = ap (λ (t : List ℕ). first_match (pieces t)) is ∙ ln_answered name
idle_answered text (inr (inl (run, is, h))) = ap (λ (t : List ℕ). first_match (pieces t)) is ∙ rotation_answered run h
idle_answered text (inr (inr (letters, v, a, b, c, is, m, n))) =
    let p : IsNeutral (letters, v) = All-contains IsNeutral neutral_values (letters, v) (All-from_recursion IsNeutral neutral_values neutral_answered) c in
    ap (λ (t : List ℕ). first_match (pieces t)) (is ∙ append_assoc letters (grammar.field (codes "A") a) (grammar.field (codes "B") b))
    ∙ p (grammar.field (codes "A") a ++ grammar.field (codes "B") b) (axes_answered v a b m n)

-- ---- formats

format_text : Format → List ℕ
format_text f = 70 ∷ 83 ∷ 76 ∷ 65 ∷ 88 ∷ (48 + f.whole) ∷ (48 + f.decimals) ∷ 89 ∷ (48 + f.whole) ∷ (48 + f.decimals) ∷ []

six_digit : (n : ℕ) → n ≤ 6 → is_digit (48 + n) ≡ true
six_digit n h = grind (arith, nat_tests)

equal : (n : ℕ) → eqb n n ≡ true
equal n = grind (arith, nat_tests)

format_piece : (f : Format) → f.whole ≤ 6 → f.decimals ≤ 6 → 0 < f.whole + f.decimals → first_match (pieces (format_text f)) ≡ Ok (FormatIs f ∷ [])
unfolding refused_format_row format_row format_text
format_piece f le few some =
    let i = 48 + f.whole in
    let d = 48 + f.decimals in
    let a = six_digit f.whole le in
    let b = six_digit f.decimals few in
    let both_digits : ((is_digit i && is_digit d) && (is_digit i && is_digit d)) ≡ true = λ k. (a k && b k) && (a k && b k) in
    let fits : (((eqb i i && eqb d d) && (leb i 54 && leb d 54)) && ltb 96 (i + d)) ≡ true = λ k. (((equal i k && equal d k) && (le-leb i 54 (omega (arith, le)) k && le-leb d 54 (omega (arith, few)) k)) && lt-ltb 96 (i + d) (omega (arith, some)) k) in
    let w : i - 48 ≡ f.whole = omega arith in
    let e : d - 48 ≡ f.decimals = omega arith in
    ap (λ t. first_match (cond t (Some (format i d i d)) None ∷ unit_piece_row (format_text f) ∷ define_row (format_text f) ∷ macro_row (format_text f) ∷ pieces_from_polarity (format_text f))) both_digits
    ∙ (ap (λ t. cond {A = Meaning} t (Ok (FormatIs (record { whole = i - 48; decimals = d - 48 }) ∷ [])) (Err BadNumber)) fits
    ∙ (λ k. Ok (FormatIs (record { whole = w k; decimals = e k }) ∷ [])))

format_is : (f : Format) → f.whole ≤ 6 → f.decimals ≤ 6 → codes "FSLAX" ++ decimal f.whole ++ decimal f.decimals ++ codes "Y" ++ decimal f.whole ++ decimal f.decimals ≡ format_text f
unfolding format_text
format_is f le few =
    let w : decimal f.whole ≡ (48 + f.whole) ∷ [] = decimal_digit f.whole (omega (arith, le)) in
    let d : decimal f.decimals ≡ (48 + f.decimals) ∷ [] = decimal_digit f.decimals (omega (arith, few)) in
    λ i. codes "FSLAX" ++ w i ++ d i ++ codes "Y" ++ w i ++ d i

-- ---- step and repeat

-- the rest of a block's text, from one field on
abbrev from_j : Option (List ℕ) → Option (List ℕ) → Option (List ℕ) → Fielded → Row
from_j x y i j = repeat_fields x y i j.0 j.1

abbrev from_i : Option (List ℕ) → Option (List ℕ) → Fielded → Row
from_i x y i = from_j x y i.0 (field is_number_char 74 i.1)

abbrev from_y : Option (List ℕ) → Fielded → Row
from_y x y = from_i x y.0 (field is_number_char 73 y.1)

abbrev from_x : Fielded → Row
from_x x = from_y x.0 (field is_digit 89 x.1)

block_starts : (x y i j : List ℕ) (b : StepRepeat) → nat_of x ≡ Ok b.columns → nat_of y ≡ Ok b.rows → parse_decimal i ≡ Ok b.step_x → parse_decimal j ≡ Ok b.step_y → repeat_start (88 ∷ (x ++ 89 ∷ (y ++ 73 ∷ (i ++ 74 ∷ j)))) ≡ Some (Ok (Repeat b ∷ []))
unfolding repeat_start repeat block_fields
block_starts x y i j b hx hy hi hj =
    let t3 : List ℕ = 74 ∷ j in
    let t2 : List ℕ = 73 ∷ (i ++ t3) in
    let t1 : List ℕ = 89 ∷ (y ++ t2) in
    (λ k. from_x (run_field is_digit x t1 (nat_digits x b.columns hx) refl k))
    ∙ ((λ k. from_y (Some x) (run_field is_digit y t2 (nat_digits y b.rows hy) refl k))
    ∙ ((λ k. from_i (Some x) (Some y) (run_field is_number_char i t3 (decimal_numbers i b.step_x hi) refl k))
    ∙ ((λ k. from_j (Some x) (Some y) (Some i) (last_field is_number_char j (decimal_numbers j b.step_y hj) k))
    ∙ (λ k. Some (both (both (hx k) (hy k)) (both (hi k) (hj k)) >>= λ p. Ok (Repeat (record { columns = p.0.0; rows = p.0.1; step_x = p.1.0; step_y = p.1.1 }) ∷ []))))))

block_answered : (rest : List ℕ) (b : StepRepeat) → repeat_start (88 ∷ rest) ≡ Some (Ok (Repeat b ∷ [])) → first_match (pieces (83 ∷ 82 ∷ 88 ∷ rest)) ≡ Ok (Repeat b ∷ [])
unfolding refused_format_row format_row unit_piece_row polarity_row mirror_row transform_row repeat_row
block_answered rest b h = ap (λ r. first_match (r ∷ pieces_from_attributes (83 ∷ 82 ∷ 88 ∷ rest))) h

-- ---- names

name_no_digit : (b : ℕ) → is_name_start b ≡ true → is_digit b ≡ false
name_no_digit b h = grind (arith, nat_tests)

-- the bytes of a name, and that it begins with no digit, whatever follows
named : (name : List ℕ) → is_name name ≡ true → (list_all is_name_byte name ≡ true) × ((rest : List ℕ) → prefix_len is_digit (name ++ rest) ≡ 0)
unfolding is_name
named [] h = absurd cc
named (b ∷ bs) h =
    let k = both_true (is_name_start b) (list_all is_name_byte bs && ltb (length bs) 127) h in
    let l = both_true (list_all is_name_byte bs) (ltb (length bs) 127) k.1 in
    (and_true (is_name_byte b) (list_all is_name_byte bs) (ap (λ t. t || (is_digit b || eqb b 45)) k.0) l.0, λ rest. ap (λ t. cond t (1 + prefix_len is_digit (bs ++ rest)) 0) (name_no_digit b k.0))

name_no_comma : (b : ℕ) → is_name_byte b ≡ true → not (eqb b 44) ≡ true
name_no_comma b h = grind (arith, nat_tests)

name_no_star : (b : ℕ) → is_name_byte b ≡ true → eqb b 42 ≡ false
name_no_star b h = grind (arith, nat_tests)

no_template : (name : List ℕ) → All (λ s. s.0 ≢ name) standards → standard_template name ≡ None
no_template name h = by (bytes_eq name (codes "C")) (bytes_eq name (codes "R")) (bytes_eq name (codes "O")) (bytes_eq name (codes "P")) refl refl refl refl (recursion_from_All (λ s. s.0 ≢ name) standards h)
  where
    by : (a b c d : Bool) → bytes_eq name (codes "C") ≡ a → bytes_eq name (codes "R") ≡ b → bytes_eq name (codes "O") ≡ c → bytes_eq name (codes "P") ≡ d → AllByRecursion (λ s. s.0 ≢ name) standards
        → cond a (Some Circle) (cond b (Some Rectangle) (cond c (Some Obround) (cond d (Some Polygon) None))) ≡ None
    by true b c d p q r s k = absurd (k.0 (sym (bytes_are name (codes "C") p)))
    by false true c d p q r s k = absurd (k.1.0 (sym (bytes_are name (codes "R") q)))
    by false false true d p q r s k = absurd (k.1.1.0 (sym (bytes_are name (codes "O") r)))
    by false false false true p q r s k = absurd (k.1.1.1.0 (sym (bytes_are name (codes "P") s)))
    by false false false false p q r s k = refl

-- ---- macros

macro_answered : (name : List ℕ) (parts : List (List ℕ)) → IsMacroName name → All (HasNo 42) parts → macro_definition (join_with_byte 42 (name ∷ parts)) ≡ Ok (Macro name parts ∷ [])
unfolding macro_definition
macro_answered name parts h k =
    let star : HasNo 42 name = none_passes is_name_byte (λ b. eqb b 42) name_no_star name (named name h.0).0 in
    ap macro_of (parts_divided 42 name parts refl star (recursion_from_All (HasNo 42) parts k))
    ∙ (λ i. cond (h.0 i && not (is_some (no_template name h.1 i))) (Ok (Macro name parts ∷ [])) (Err BadWord))

begins_macro : (rest : List ℕ) (cs : List Command) → macro_definition rest ≡ Ok cs → piece (65 ∷ 77 ∷ rest) ≡ Ok cs
unfolding piece
begins_macro rest cs e = ap (λ t. cond t (Err SeveralInOne) (first_match (pieces (65 ∷ 77 ∷ rest)))) (and_false (list_any (λ b. eqb b 42) rest)) ∙ (macro_first rest ∙ e)

-- ---- apertures

number_answered : (digits : List ℕ) (n : ℕ) → nat_of digits ≡ Ok n → 10 ≤ n → aperture_number digits ≡ Ok n
unfolding aperture_number
number_answered digits n e h = (λ i. e i >>= λ m. cond (ltb m 10) (Err BadNumber) (Ok m)) ∙ ap (λ t. cond t (Err BadNumber) (Ok n)) (le-ltb n 10 h)

two_bytes : (a b : ℕ) (xs : List ℕ) → ltb 1 (length (a ∷ b ∷ xs)) ≡ true
two_bytes a b xs = lt-ltb _ _ (omega arith)

-- the definition of a standard aperture of this letter
letter_defines : (ds : List ℕ) (letter : ℕ) (text : List ℕ) (aperture : Standard) → not (eqb letter 44) ≡ true → is_name (letter ∷ []) ≡ true → standard_template (letter ∷ []) ≡ Some aperture → define ds (letter ∷ 44 ∷ text) ≡ define_standard ds aperture (Some text)
unfolding define
letter_defines ds letter text aperture plain name is =
    let w : List ℕ = letter ∷ 44 ∷ text in
    let len : prefix_len (λ b. not (eqb b 44)) w ≡ 1 = ap (λ t. cond t (1 + 0) 0) plain in
    (λ i. cond (is_name (take (len i) w)) (define_template ds (take (len i) w) (standard_template (take (len i) w)) (cond (ltb (len i) (length w)) (Some (drop (len i + 1) w)) None)) (Err BadWord))
    ∙ (λ i. cond (name i) (define_template ds (letter ∷ []) (is i) (cond (two_bytes letter 44 text i) (Some text) None)) (Err BadWord))

-- what the table of standard apertures says of the rows
record IsListed (s : List ℕ × Standard × ℕ × ℕ) : Type 0 where
  least : s.2 ≡ min_sizes s.1
  most : s.3 ≡ max_sizes s.1
  some : 1 ≤ s.2
  defines : (ds text : List ℕ) → define ds (s.0 ++ codes "," ++ text) ≡ define_standard ds s.1 (Some text)
  no_digit : (text : List ℕ) → prefix_len is_digit (s.0 ++ codes "," ++ text) ≡ 0

listed : AllByRecursion IsListed standards
unfolding is_name
listed = (
  record { least = refl; most = refl; some = omega arith; defines = λ ds text. letter_defines ds 67 text Circle refl refl refl; no_digit = λ text. refl },
  (
    record { least = refl; most = refl; some = omega arith; defines = λ ds text. letter_defines ds 82 text Rectangle refl refl refl; no_digit = λ text. refl },
    (
      record { least = refl; most = refl; some = omega arith; defines = λ ds text. letter_defines ds 79 text Obround refl refl refl; no_digit = λ text. refl },
      (record { least = refl; most = refl; some = omega arith; defines = λ ds text. letter_defines ds 80 text Polygon refl refl refl; no_digit = λ text. refl }, tt),
    ),
  ),
)

-- runs that are read are runs of numbers
runs_numbers : (runs : List (List ℕ)) (sizes : List ℤ) → map parse_decimal runs ≡ map Ok sizes → list_all (list_all is_number_char) runs ≡ true
runs_numbers [] sizes e = refl
runs_numbers (run ∷ runs) [] e = absurd cc
runs_numbers (run ∷ runs) (v ∷ vs) e =
    let head : parse_decimal run ≡ Ok v = cc in
    let tail : map parse_decimal runs ≡ map Ok vs = cc in
    and_true (list_all is_number_char run) (list_all (list_all is_number_char) runs) (decimal_numbers run v head) (runs_numbers runs vs tail)

all_read : (sizes : List ℤ) → all_values (map Ok sizes) ≡ Ok sizes
all_read [] = refl
all_read (v ∷ vs) = λ i. both (Ok v) (all_read vs i) >>= λ p. Ok (p.0 ∷ p.1)

divided : (runs : List (List ℕ)) → 1 ≤ length runs → list_all (list_all is_number_char) runs ≡ true → split_by 88 (join_with_byte 88 runs) ≡ runs
divided [] h k = absurd (omega arith)
divided (run ∷ runs) h k = let n = no_x (run ∷ runs) k in parts_divided 88 run runs refl n.0 n.1

sizes_answered : (which : Standard) (runs : List (List ℕ)) (sizes : List ℤ) → 1 ≤ length runs → min_sizes which ≤ length runs → length runs ≤ max_sizes which → map parse_decimal runs ≡ map Ok sizes → sizes_of which (Some (join_with_byte 88 runs)) ≡ Ok sizes
unfolding sizes_of
sizes_answered which runs sizes some least most read =
    let numbers = runs_numbers runs sizes read in
    let fits : are_sizes which runs ≡ true = and_true (list_all (list_all is_number_char) runs) (leb (min_sizes which) (length runs) && leb (length runs) (max_sizes which)) numbers (and_true (leb (min_sizes which) (length runs)) (leb (length runs) (max_sizes which)) (le-leb _ _ least) (le-leb _ _ most)) in
    ap (λ (parts : List (List ℕ)). cond (are_sizes which parts) (all_values (map parse_decimal parts)) (Err BadWord)) (divided runs some numbers)
    ∙ (ap (λ t. cond t (all_values (map parse_decimal runs)) (Err BadWord)) fits ∙ (ap all_values read ∙ all_read sizes))

standard_answered : (digits : List ℕ) (n : ℕ) (which : Standard) (text : List ℕ) (sizes : List ℤ) → aperture_number digits ≡ Ok n → sizes_of which (Some text) ≡ Ok sizes → define_standard digits which (Some text) ≡ Ok (Define n (templates.Standard which sizes) ∷ [])
unfolding define_standard
standard_answered digits n which text sizes h k = λ i. both (h i) (k i) >>= λ p. Ok (Define p.0 (templates.Standard which p.1) ∷ [])

named_answered : (digits : List ℕ) (n : ℕ) (name : List ℕ) (parameters : Option (List ℕ)) → aperture_number digits ≡ Ok n → define_named digits name parameters ≡ Ok (Define n (templates.Named name parameters) ∷ [])
unfolding define_named
named_answered digits n name parameters h = λ i. h i >>= λ m. Ok (Define m (templates.Named name parameters) ∷ [])

not_less : (n : ℕ) → ltb n n ≡ false
not_less n = le-ltb n n (omega arith)

-- a name and its parameters are parted at the comma
before_is : (name : List ℕ) (parameters : Option (List ℕ)) → list_all is_name_byte name ≡ true → prefix_len (λ b. not (eqb b 44)) (name ++ grammar.field (codes ",") parameters) ≡ length name
before_is name None h = prefix_len_append (λ b. not (eqb b 44)) name [] (list_all_weaker is_name_byte (λ b. not (eqb b 44)) name_no_comma name h) refl
before_is name (Some text) h = prefix_len_append (λ b. not (eqb b 44)) name (44 ∷ text) (list_all_weaker is_name_byte (λ b. not (eqb b 44)) name_no_comma name h) refl

after_is : (name : List ℕ) (parameters : Option (List ℕ)) → (let w = name ++ grammar.field (codes ",") parameters in cond (ltb (length name) (length w)) (Some (drop (length name + 1) w)) None ≡ parameters)
after_is name None = ap (λ (w : List ℕ). cond (ltb (length name) (length w)) (Some (drop (length name + 1) w)) None) (append-nil name) ∙ ap (λ t. cond t (Some (drop (length name + 1) name)) None) (not_less (length name))
after_is name (Some text) =
    let w = name ++ 44 ∷ text in
    let more : ltb (length name) (length w) ≡ true = lt-ltb _ _ (omega (arith, length-append name (44 ∷ text))) in
    let rest : drop (length name + 1) w ≡ text = ap (drop (length name + 1)) (sym (append_assoc name (44 ∷ []) text)) ∙ drop_at (name ++ 44 ∷ []) text (length name + 1) (length-append name (44 ∷ [])) in
    λ i. cond (more i) (Some (rest i)) None

name_defines : (digits name : List ℕ) (parameters : Option (List ℕ)) → IsMacroName name → define digits (name ++ grammar.field (codes ",") parameters) ≡ define_named digits name parameters
unfolding define
name_defines digits name parameters h =
    let w = name ++ grammar.field (codes ",") parameters in
    let len = before_is name parameters (named name h.0).0 in
    let before : before_comma w ≡ name = ap (λ k. take k w) len ∙ take_at name (grammar.field (codes ",") parameters) (length name) refl in
    let after : after_comma w ≡ parameters = (λ i. cond (ltb (len i) (length w)) (Some (drop (len i + 1) w)) None) ∙ after_is name parameters in
    (λ i. cond (is_name (before i)) (define_template digits (before i) (standard_template (before i)) (after i)) (Err BadWord))
    ∙ (λ i. cond (h.0 i) (define_template digits name (no_template name h.1 i) parameters) (Err BadWord))

template_answered : (digits : List ℕ) (n : ℕ) (rest : List ℕ) (t : Template) → aperture_number digits ≡ Ok n → IsTemplate rest t → (prefix_len is_digit rest ≡ 0) × (define digits rest ≡ Ok (Define n t ∷ []))
template_answered digits n rest (templates.Standard which sizes) h (letter, least, most, runs, c, is, few, many, read) =
    let l : IsListed (letter, which, least, most) = All-contains IsListed standards (letter, which, least, most) (All-from_recursion IsListed standards listed) c in
    let text = join_with_byte 88 runs in
    let sizes_are = sizes_answered which runs sizes (omega (arith, l.some, few)) (omega (arith, l.least, few)) (omega (arith, l.most, many)) read in
    (ap (prefix_len is_digit) is ∙ l.no_digit text, ap (define digits) is ∙ (l.defines digits text ∙ standard_answered digits n which text sizes h sizes_are))
template_answered digits n rest (templates.Named name parameters) h (is_macro, is) =
    (ap (prefix_len is_digit) is ∙ (named name is_macro.0).1 (grammar.field (codes ",") parameters), ap (define digits) is ∙ (name_defines digits name parameters is_macro ∙ named_answered digits n name parameters h))

define_answered : (digits : List ℕ) (n : ℕ) (rest : List ℕ) (t : Template) → nat_of digits ≡ Ok n → 10 ≤ n → IsTemplate rest t → first_match (pieces (65 ∷ 68 ∷ 68 ∷ (digits ++ rest))) ≡ Ok (Define n t ∷ [])
unfolding refused_format_row format_row unit_piece_row definition
define_answered digits n rest t e h k =
    let d = nat_digits digits n e in
    let a = template_answered digits n rest t (number_answered digits n e h) k in
    (λ i. define (take_while_append is_digit digits rest d a.0 i) (drop_run_append is_digit digits rest d a.0 i)) ∙ a.1

-- ---- all pieces

one_answered : (text : List ℕ) (c : Command) → SpellsOne text c → first_match (pieces text) ≡ Ok (c ∷ [])
one_answered text (FormatIs f) (whole, decimals, some, is) = ap (λ (t : List ℕ). first_match (pieces t)) (is ∙ format_is f whole decimals) ∙ format_piece f whole decimals some
one_answered text (Define n t) (digits, rest, e, h, k, is) = ap (λ (t : List ℕ). first_match (pieces t)) is ∙ define_answered digits n rest t e h k
one_answered text (Turn v) (run, is, h) = ap (λ (t : List ℕ). first_match (pieces t)) is ∙ turn_answered run v h
one_answered text (Scale v) (run, is, h) = ap (λ (t : List ℕ). first_match (pieces t)) is ∙ scale_answered run v h
one_answered text (Repeat b) (x, y, i, j, is, hx, hy, hi, hj) =
    let whole : text ≡ 83 ∷ 82 ∷ 88 ∷ (x ++ 89 ∷ (y ++ 73 ∷ (i ++ 74 ∷ j))) = is ∙ ap (λ (l : List ℕ). 83 ∷ 82 ∷ 88 ∷ l) (block_fields_are x y i j) in
    ap (λ (t : List ℕ). first_match (pieces t)) whole ∙ block_answered (x ++ 89 ∷ (y ++ 73 ∷ (i ++ 74 ∷ j))) b (block_starts x y i j b hx hy hi hj)
one_answered text (Attribute kinds.File value) (is, h) = ap (λ (t : List ℕ). first_match (pieces t)) is ∙ file_answered value h
one_answered text (Attribute kinds.Aperture value) is = ap (λ (t : List ℕ). first_match (pieces t)) is ∙ aperture_answered value
one_answered text (Attribute kinds.Object value) is = ap (λ (t : List ℕ). first_match (pieces t)) is ∙ object_answered value
one_answered text (Remove value) is = ap (λ (t : List ℕ). first_match (pieces t)) is ∙ removal_answered value
one_answered text c h = absurd h

plain_answered : (text : List ℕ) (cs : List Command) → IsPlain text cs → first_match (pieces text) ≡ Ok cs
plain_answered text cs (inl c) = All-contains (λ f. first_match (pieces f.0) ≡ Ok f.1) fixed_pieces (text, cs) (All-from_recursion (λ f. first_match (pieces f.0) ≡ Ok f.1) fixed_pieces fixed_answered) c
plain_answered text cs (inr (inl (c, h, is))) = one_answered text c h ∙ ap (λ (l : List Command). Ok l) (sym is)
plain_answered text cs (inr (inr (h, is))) = idle_answered text h ∙ ap (λ (l : List Command). Ok l) (sym is)

-- what is so written, the rows answer
pub written_is_answered : WrittenIsAnswered
unfolding piece
written_is_answered text cs (inl (name, parts, h, k, is, spelled)) =
    ap piece is ∙ (begins_macro (join_with_byte 42 (name ∷ parts)) (Macro name parts ∷ []) (macro_answered name parts h k) ∙ ap (λ (l : List Command). Ok l) (sym spelled))
written_is_answered text cs (inr (star, h)) = ap (λ t. cond (t && not (is_some (strip_prefix (codes "AM") text))) (Err SeveralInOne) (first_match (pieces text))) star ∙ plain_answered text cs h

-- so a piece spells at most one list of commands
pub one_list : PiecesSpellOneList
one_list text a b h k = same a b (sym (written_is_answered text a h) ∙ written_is_answered text b k)
  where
    same : (x y : List Command) → ◌≡◌ {A = Meaning} (Ok x) (Ok y) → x ≡ y
    same x y e = cc

-- what is read of a text before its `*`
pub with_end_answered : (reads : List ℕ → Meaning) (text : List ℕ) → cond (bytes_eq (last_byte (text ++ codes "*")) (codes "*")) (reads (before_last (text ++ codes "*"))) (Err BadWord) ≡ reads text
with_end_answered reads text =
    let len : length text ≡ length (text ++ codes "*") - 1 = omega (arith, length-append text (codes "*")) in
    λ i. cond (bytes_eq (drop_at text (codes "*") _ len i) (codes "*")) (reads (take_at text (codes "*") _ len i)) (Err BadWord)
