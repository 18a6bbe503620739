-- A text that is refused is refused for a reason of reading.
use Rattle.gerber_text.proofs.Common.{ℕ, suc, Bool, true, false, cond, eqb, ltb, List, [], ◌∷◌, length, drop, Option, None, Some, Result, Ok, Err, unwrap_or, sym, subst, codes, bytes_eq, AllByRecursion, list_any, prefix_len, take_while, option_map, option_or, Reason, Fault, BadWord, ClearPolarity, NegativeImage, Incremental, TrailingZeros, SeveralInOne, BadNumber, TooFine, TooFar, Inch, Millimetre, ◌>>=◌, both, with_place, is_digit, is_number_char, parse_decimal, value, whole, fraction, value_without_point, to_units, signed_value, is_decimal, fits_eight_decimals, Profile, Strict, Wide, extended_in, Quadrant, RegionStart, RegionEnd, UnitIs, Dark, Clear, Mirror, Macro, RepeatEnd, Single, Multi, Action, Plot, Move, Flash, Standard, Interpolation, int_of, nat_of, Meaning, Row, first_match, field, Fields, no_effect_row, comment, mode_row, quadrant_row, region_row, unit_row, incremental_row, action, d_word, g54_word, select_row, coordinate, named_action, kind, operands, operate, operation_row, finish_row, deprecated_row, words, word, split_by, last_byte, before_last, is_name, standard_template, are_sizes, before_comma, after_comma, has_several_pieces, refused_format_row, format_fields, format_row, unit_piece_row, all_values, sizes_of, aperture_number, define_standard, define_named, define_template, define, definition, macro_of, macro_definition, polarity_row, mirror_row, turn, scale, transform_row, block_fields, repeat, repeat_fields, repeat_start, repeat_row, file_attribute, attribute, removal, no_effect_piece_row, neutral_axes_row, negative_row, deprecated_piece_row, block_aperture_row, pieces, piece, extended_meaning, meaning_in, repeated_in, without_end, OffsetByte, Entries, spelled_in, commands_by, after_end, shown_by, read_by, ReadsIn}
use Rattle.std.specs.Prelude.{ℤ, map, is_some, unwrap_or, not, ◌&&◌}
use Rattle.gerber_commands.specs.declared.command.AttributeKind.{AttributeKind}
use Rattle.grid_units.specs.Rows.{strip_prefix}
use Rattle.gerber_commands.specs.Profiles.{piece_among, spelled_in_turn, wide_piece, wide_pieces}
use Rattle.gerber_text.specs.Reasons.{IsReasonOfReading}

-- ---- answers whose reason is one of reading

ReadingReasons : {X : Type 0} → Result X Reason → Type 0
ReadingReasons (Ok x) = Unit {0}
ReadingReasons (Err r) = IsReasonOfReading r

RowReadingReasons : Row → Type 0
RowReadingReasons None = Unit {0}
RowReadingReasons (Some m) = ReadingReasons m

reasons_ok : {X : Type 0} (x : X) → ReadingReasons {X = X} (Ok x)
unfolding ReadingReasons
reasons_ok x = tt

reasons_err : (X : Type 0) (r : Reason) → IsReasonOfReading r → ReadingReasons {X = X} (Err r)
unfolding ReadingReasons
reasons_err X r h = h

reasons_cond : {X : Type 0} (t : Bool) (a b : Result X Reason) → ReadingReasons a → ReadingReasons b → ReadingReasons (cond t a b)
reasons_cond true a b h k = h
reasons_cond false a b h k = k

reasons_bind : {A B : Type 0} (r : Result A Reason) (f : A → Result B Reason) → ReadingReasons r → ((x : A) → ReadingReasons (f x)) → ReadingReasons (r >>= f)
unfolding ReadingReasons
reasons_bind (Ok x) f h k = k x
reasons_bind (Err e) f h k = h

one_of : (t : Bool) (a b : Reason) → IsReasonOfReading a → IsReasonOfReading b → IsReasonOfReading (cond t a b)
one_of true a b h k = h
one_of false a b h k = k

reasons_both : {A B : Type 0} (a : Result A Reason) (b : Result B Reason) → ReadingReasons a → ReadingReasons b → ReadingReasons (both a b)
unfolding ReadingReasons
reasons_both (Ok x) (Ok y) h k = tt
reasons_both (Ok x) (Err b) h k = k
reasons_both (Err a) (Ok y) h k = h
reasons_both (Err a) (Err b) h k = one_of _ a b h k

row_none : RowReadingReasons None
unfolding RowReadingReasons
row_none = tt

row_some : (m : Meaning) → ReadingReasons m → RowReadingReasons (Some m)
unfolding RowReadingReasons
row_some m h = h

row_cond : (t : Bool) (a b : Row) → RowReadingReasons a → RowReadingReasons b → RowReadingReasons (cond t a b)
row_cond true a b h k = h
row_cond false a b h k = k

-- a row of one text
row_is : (t : Bool) (m : Meaning) (r : Row) → ReadingReasons m → RowReadingReasons r → RowReadingReasons (cond t (Some m) r)
row_is t m r h k = row_cond t (Some m) r (row_some m h) k

row_map : {A : Type 0} (f : A → Meaning) (o : Option A) → ((x : A) → ReadingReasons (f x)) → RowReadingReasons (option_map f o)
unfolding RowReadingReasons
row_map f None h = tt
row_map f (Some x) h = h x

row_or : (a b : Row) → RowReadingReasons a → RowReadingReasons b → RowReadingReasons (option_or a b)
unfolding RowReadingReasons
row_or None b h k = k
row_or (Some m) b h k = h

first_reasons : (rows : List Row) → AllByRecursion RowReadingReasons rows → ReadingReasons (first_match rows)
unfolding ReadingReasons RowReadingReasons
first_reasons [] h = tt
first_reasons (None ∷ rows) h = first_reasons rows h.1
first_reasons (Some m ∷ rows) h = h.0

-- ---- numbers

nat_reasons : (digits : List ℕ) → ReadingReasons (nat_of digits)
unfolding nat_of
nat_reasons digits = reasons_cond _ _ _ (reasons_ok _) (reasons_err _ _ tt)

int_reasons : (run : List ℕ) → ReadingReasons (int_of run)
unfolding int_of
int_reasons run = reasons_cond _ _ _ (reasons_cond _ _ _ (reasons_err _ _ tt) (reasons_ok _)) (reasons_err _ _ tt)

dec_reasons : (run : List ℕ) → ReadingReasons (parse_decimal run)
unfolding parse_decimal
dec_reasons run =
    let v = signed_value run (to_units (value_without_point run) (length (fraction run))) in
    let far : Result ℤ Reason = cond (ltb 999999 (value (whole run))) (Err TooFar) (Ok v) in
    let fine_one : Result ℤ Reason = cond (fits_eight_decimals (fraction run)) far (Err TooFine) in
    reasons_cond (is_decimal run) fine_one (Err BadNumber)
    (reasons_cond (fits_eight_decimals (fraction run)) far (Err TooFine) (reasons_cond (ltb 999999 (value (whole run))) (Err TooFar) (Ok v) (reasons_err ℤ TooFar tt) (reasons_ok v)) (reasons_err ℤ TooFine tt)) (reasons_err ℤ BadNumber tt)

-- ---- words

no_effect_reasons : (text : List ℕ) → RowReadingReasons (no_effect_row text)
unfolding no_effect_row
no_effect_reasons text = row_cond _ _ _ (row_some _ (reasons_ok _)) row_none

comment_reasons : (text : List ℕ) → ReadingReasons (comment text)
unfolding comment
comment_reasons text = reasons_cond _ _ _ (reasons_err _ _ tt) (reasons_ok _)

mode_reasons : (text : List ℕ) → RowReadingReasons (mode_row text)
unfolding mode_row
mode_reasons text = row_cond _ _ _ (row_map _ _ (λ x. reasons_ok _)) row_none

quadrant_reasons : (text : List ℕ) → RowReadingReasons (quadrant_row text)
unfolding quadrant_row
quadrant_reasons text = row_is (bytes_eq text (codes "G74")) (Ok (Quadrant Single ∷ [])) (cond (bytes_eq text (codes "G75")) (Some (Ok (Quadrant Multi ∷ []))) None) (reasons_ok _) (row_is (bytes_eq text (codes "G75")) (Ok (Quadrant Multi ∷ [])) None (reasons_ok _) row_none)

region_reasons : (text : List ℕ) → RowReadingReasons (region_row text)
unfolding region_row
region_reasons text = row_is (bytes_eq text (codes "G36")) (Ok (RegionStart ∷ [])) (cond (bytes_eq text (codes "G37")) (Some (Ok (RegionEnd ∷ []))) None) (reasons_ok _) (row_is (bytes_eq text (codes "G37")) (Ok (RegionEnd ∷ [])) None (reasons_ok _) row_none)

unit_reasons : (text : List ℕ) → RowReadingReasons (unit_row text)
unfolding unit_row
unit_reasons text = row_is (bytes_eq text (codes "G70")) (Ok (UnitIs Inch ∷ [])) (cond (bytes_eq text (codes "G71")) (Some (Ok (UnitIs Millimetre ∷ []))) None) (reasons_ok _) (row_is (bytes_eq text (codes "G71")) (Ok (UnitIs Millimetre ∷ [])) None (reasons_ok _) row_none)

incremental_reasons : (text : List ℕ) → RowReadingReasons (incremental_row text)
unfolding incremental_row
incremental_reasons text = row_is (bytes_eq text (codes "G91")) (Err Incremental) None (reasons_err _ _ tt) row_none

action_reasons : (n : ℕ) → ReadingReasons (action n)
action_reasons n =
    let third : Result Action Reason = cond (eqb n 3) (Ok Flash) (Err BadWord) in
    let second : Result Action Reason = cond (eqb n 2) (Ok Move) third in
    reasons_cond (eqb n 1) (Ok Plot) second (reasons_ok Plot) (reasons_cond (eqb n 2) (Ok Move) third (reasons_ok Move) (reasons_cond (eqb n 3) (Ok Flash) (Err BadWord) (reasons_ok Flash) (reasons_err Action BadWord tt)))

d_word_reasons : (digits : List ℕ) → ReadingReasons (d_word digits)
unfolding d_word
d_word_reasons digits = reasons_bind _ _ (nat_reasons digits) (λ n. reasons_cond _ _ _ (reasons_ok _) (reasons_bind _ _ (action_reasons n) (λ what. reasons_ok _)))

g54_word_reasons : (digits : List ℕ) → ReadingReasons (g54_word digits)
unfolding g54_word
g54_word_reasons digits = reasons_bind _ _ (nat_reasons digits) (λ n. reasons_cond _ _ _ (reasons_ok _) (reasons_err _ _ tt))

select_reasons : (text : List ℕ) → RowReadingReasons (select_row text)
unfolding select_row
select_reasons text = row_or _ _ (row_map _ _ d_word_reasons) (row_map _ _ g54_word_reasons)

coordinate_reasons : (run : Option (List ℕ)) → ReadingReasons (coordinate run)
unfolding coordinate
coordinate_reasons None = reasons_ok _
coordinate_reasons (Some run) = reasons_bind _ _ (int_reasons run) (λ n. reasons_ok _)

which_reasons : (digits : Option (List ℕ)) (repeated : Option Action) → ReadingReasons (named_action digits repeated)
which_reasons None None = reasons_err _ _ tt
which_reasons None (Some what) = reasons_ok _
which_reasons (Some digits) repeated = reasons_bind _ _ (nat_reasons digits) action_reasons

kind_reasons : (repeated : Option Action) (offsets : Bool) (digits : Option (List ℕ)) → ReadingReasons (kind repeated offsets digits)
unfolding kind
kind_reasons repeated offsets digits = reasons_bind (named_action digits repeated) _ (which_reasons digits repeated) (λ what. reasons_cond _ _ _ (reasons_err _ _ tt) (reasons_ok _))

operands_reasons : (repeated : Option Action) (f : Fields) → ReadingReasons (operands repeated f)
unfolding operands
operands_reasons repeated f = reasons_both _ _ (reasons_both _ _ (reasons_both _ _ (coordinate_reasons f.x) (coordinate_reasons f.y)) (reasons_both _ _ (coordinate_reasons f.i) (coordinate_reasons f.j))) (kind_reasons repeated _ f.d)

operate_reasons : (repeated : Option Action) (mode : Option Interpolation) (f : Fields) → ReadingReasons (operate repeated mode f)
unfolding operate
operate_reasons repeated mode f = reasons_bind _ _ (operands_reasons repeated f) (λ r. reasons_ok _)

operation_reasons : (repeated : Option Action) (text : List ℕ) → RowReadingReasons (operation_row repeated text)
unfolding operation_row
operation_reasons repeated text = row_cond _ _ _ (row_some _ (operate_reasons repeated _ _)) row_none

finish_reasons : (text : List ℕ) → RowReadingReasons (finish_row text)
unfolding finish_row
finish_reasons text = row_cond _ _ _ (row_some _ (reasons_ok _)) row_none

deprecated_reasons : (text : List ℕ) → RowReadingReasons (deprecated_row text)
unfolding deprecated_row
deprecated_reasons text = row_cond _ _ _ (row_some _ (reasons_err _ _ tt)) row_none

words_reasons : (repeated : Option Action) (text : List ℕ) → AllByRecursion RowReadingReasons (words repeated text)
words_reasons repeated text = (no_effect_reasons text, (row_map _ _ comment_reasons, (mode_reasons text, (quadrant_reasons text, (region_reasons text, (unit_reasons text, (incremental_reasons text, (select_reasons text, (operation_reasons repeated text, (finish_reasons text, (deprecated_reasons text, tt)))))))))))

word_reasons : (repeated : Option Action) (text : List ℕ) → ReadingReasons (word repeated text)
unfolding word
word_reasons repeated text = reasons_cond (list_any (λ b. eqb b 37) text) (Err BadWord) (first_match (words repeated text)) (reasons_err _ BadWord tt) (first_reasons (words repeated text) (words_reasons repeated text))

-- ---- extended items

refused_format_reasons : (text : List ℕ) → RowReadingReasons (refused_format_row text)
unfolding refused_format_row
refused_format_reasons text =
    let t = is_some (strip_prefix (codes "FST") text) in
    let u = is_some (strip_prefix (codes "FSLI") text) in
    row_is t (Err TrailingZeros) (cond u (Some (Err Incremental)) None) (reasons_err _ TrailingZeros tt) (row_is u (Err Incremental) None (reasons_err _ Incremental tt) row_none)

fields_reasons : (text : List ℕ) → RowReadingReasons (format_fields text)
fields_reasons (i ∷ d ∷ y ∷ j ∷ e ∷ []) = row_cond _ _ _ (row_some _ (reasons_cond _ _ _ (reasons_ok _) (reasons_err _ _ tt))) row_none
fields_reasons _ = row_none

format_reasons : (text : List ℕ) → RowReadingReasons (format_row text)
unfolding format_row
format_reasons text = fields_reasons (unwrap_or (strip_prefix (codes "FSLAX") text) [])

unit_piece_reasons : (text : List ℕ) → RowReadingReasons (unit_piece_row text)
unfolding unit_piece_row
unit_piece_reasons text = row_is (bytes_eq text (codes "MOIN")) (Ok (UnitIs Inch ∷ [])) (cond (bytes_eq text (codes "MOMM")) (Some (Ok (UnitIs Millimetre ∷ []))) None) (reasons_ok _) (row_is (bytes_eq text (codes "MOMM")) (Ok (UnitIs Millimetre ∷ [])) None (reasons_ok _) row_none)

runs_reasons : (runs : List (List ℕ)) → ReadingReasons (all_values (map parse_decimal runs))
runs_reasons [] = reasons_ok []
runs_reasons (run ∷ runs) = reasons_bind _ _ (reasons_both _ _ (dec_reasons run) (runs_reasons runs)) (λ p. reasons_ok _)

sizes_reasons : (aperture : Standard) (parameters : Option (List ℕ)) → ReadingReasons (sizes_of aperture parameters)
unfolding sizes_of
sizes_reasons aperture None = reasons_err _ _ tt
sizes_reasons aperture (Some text) = reasons_cond (are_sizes aperture (split_by 88 text)) (all_values (map parse_decimal (split_by 88 text))) (Err BadWord) (runs_reasons (split_by 88 text)) (reasons_err _ BadWord tt)

number_reasons : (digits : List ℕ) → ReadingReasons (aperture_number digits)
unfolding aperture_number
number_reasons digits = reasons_bind _ _ (nat_reasons digits) (λ n. reasons_cond _ _ _ (reasons_err _ _ tt) (reasons_ok _))

standard_reasons : (digits : List ℕ) (aperture : Standard) (parameters : Option (List ℕ)) → ReadingReasons (define_standard digits aperture parameters)
unfolding define_standard
standard_reasons digits aperture parameters = reasons_bind _ _ (reasons_both _ _ (number_reasons digits) (sizes_reasons aperture parameters)) (λ p. reasons_ok _)

named_reasons : (digits name : List ℕ) (parameters : Option (List ℕ)) → ReadingReasons (define_named digits name parameters)
unfolding define_named
named_reasons digits name parameters = reasons_bind _ _ (number_reasons digits) (λ n. reasons_ok _)

template_reasons : (digits name : List ℕ) (aperture : Option Standard) (parameters : Option (List ℕ)) → ReadingReasons (define_template digits name aperture parameters)
template_reasons digits name None parameters = named_reasons digits name parameters
template_reasons digits name (Some aperture) parameters = standard_reasons digits aperture parameters

define_reasons : (digits text : List ℕ) → ReadingReasons (define digits text)
unfolding define
define_reasons digits text = reasons_cond (is_name (before_comma text)) (define_template digits (before_comma text) (standard_template (before_comma text)) (after_comma text)) (Err BadWord) (template_reasons digits (before_comma text) (standard_template (before_comma text)) (after_comma text)) (reasons_err _ BadWord tt)

definition_reasons : (text : List ℕ) → ReadingReasons (definition text)
unfolding definition
definition_reasons text = define_reasons (take_while is_digit text) (drop (prefix_len is_digit text) text)

pieces_of_reasons : (texts : List (List ℕ)) → ReadingReasons (macro_of texts)
pieces_of_reasons [] = reasons_err _ _ tt
pieces_of_reasons (name ∷ texts) = reasons_cond (is_name name && not (is_some (standard_template name))) (Ok (Macro name texts ∷ [])) (Err BadWord) (reasons_ok _) (reasons_err _ BadWord tt)

macro_reasons : (text : List ℕ) → ReadingReasons (macro_definition text)
unfolding macro_definition
macro_reasons text = pieces_of_reasons (split_by 42 text)

polarity_reasons : (text : List ℕ) → RowReadingReasons (polarity_row text)
unfolding polarity_row
polarity_reasons text = row_is (bytes_eq text (codes "LPD")) (Ok (Dark ∷ [])) (cond (bytes_eq text (codes "LPC")) (Some (Err ClearPolarity)) None) (reasons_ok _) (row_is (bytes_eq text (codes "LPC")) (Err ClearPolarity) None (reasons_err _ _ tt) row_none)

mirror_reasons : (text : List ℕ) → RowReadingReasons (mirror_row text)
unfolding mirror_row
mirror_reasons text = (row_is (bytes_eq text (codes "LMN")) (Ok (Mirror false false ∷ [])) (cond (bytes_eq text (codes "LMX")) (Some (Ok (Mirror true false ∷ []))) (cond (bytes_eq text (codes "LMY")) (Some (Ok (Mirror false true ∷ []))) (cond (bytes_eq text (codes "LMXY")) (Some (Ok (Mirror true true ∷ []))) None))) (reasons_ok _) (row_is (bytes_eq text (codes "LMX")) (Ok (Mirror true false ∷ [])) (cond (bytes_eq text (codes "LMY")) (Some (Ok (Mirror false true ∷ []))) (cond (bytes_eq text (codes "LMXY")) (Some (Ok (Mirror true true ∷ []))) None)) (reasons_ok _) (row_is (bytes_eq text (codes "LMY")) (Ok (Mirror false true ∷ [])) (cond (bytes_eq text (codes "LMXY")) (Some (Ok (Mirror true true ∷ []))) None) (reasons_ok _) (row_is (bytes_eq text (codes "LMXY")) (Ok (Mirror true true ∷ [])) None (reasons_ok _) row_none))))

turn_reasons : (run : List ℕ) → ReadingReasons (turn run)
unfolding turn
turn_reasons run = reasons_bind _ _ (dec_reasons run) (λ d. reasons_ok _)

scale_reasons : (run : List ℕ) → ReadingReasons (scale run)
unfolding scale
scale_reasons run = reasons_bind _ _ (dec_reasons run) (λ d. reasons_ok _)

transform_reasons : (text : List ℕ) → RowReadingReasons (transform_row text)
unfolding transform_row
transform_reasons text = row_or _ _ (row_map _ _ turn_reasons) (row_map _ _ scale_reasons)

repeat_reasons : (x y i j : List ℕ) → ReadingReasons (repeat x y i j)
unfolding repeat block_fields
repeat_reasons x y i j = reasons_bind _ _ (reasons_both _ _ (reasons_both _ _ (nat_reasons x) (nat_reasons y)) (reasons_both _ _ (dec_reasons i) (dec_reasons j))) (λ p. reasons_ok _)

block_reasons : (x y i j : Option (List ℕ)) (rest : List ℕ) → RowReadingReasons (repeat_fields x y i j rest)
block_reasons (Some x) (Some y) (Some i) (Some j) [] = row_some _ (repeat_reasons x y i j)
block_reasons _ _ _ _ _ = row_none

start_reasons : (text : List ℕ) → RowReadingReasons (repeat_start text)
unfolding repeat_start
start_reasons text =
    let x = field is_digit 88 text in
    let y = field is_digit 89 x.1 in
    let i = field is_number_char 73 y.1 in
    let j = field is_number_char 74 i.1 in
    block_reasons x.0 y.0 i.0 j.0 j.1

repeat_row_reasons : (text : List ℕ) → RowReadingReasons (repeat_row text)
unfolding repeat_row
repeat_row_reasons text = row_is (bytes_eq text (codes "SR")) (Ok (RepeatEnd ∷ [])) (repeat_start (unwrap_or (strip_prefix (codes "SR") text) [])) (reasons_ok _) (start_reasons (unwrap_or (strip_prefix (codes "SR") text) []))

file_reasons : (text : List ℕ) → ReadingReasons (file_attribute text)
unfolding file_attribute
file_reasons text = reasons_cond _ _ _ (reasons_err _ _ tt) (reasons_ok _)

attribute_reasons : (of : AttributeKind) (text : List ℕ) → ReadingReasons (attribute of text)
unfolding attribute
attribute_reasons of text = reasons_ok _

removal_reasons : (text : List ℕ) → ReadingReasons (removal text)
unfolding removal
removal_reasons text = reasons_ok _

no_effect_piece_reasons : (text : List ℕ) → RowReadingReasons (no_effect_piece_row text)
unfolding no_effect_piece_row
no_effect_piece_reasons text = row_cond _ _ _ (row_some _ (reasons_ok _)) row_none

neutral_axes_reasons : (text : List ℕ) → RowReadingReasons (neutral_axes_row text)
unfolding neutral_axes_row
neutral_axes_reasons text = row_cond _ _ _ (row_some _ (reasons_ok _)) row_none

negative_reasons : (text : List ℕ) → RowReadingReasons (negative_row text)
unfolding negative_row
negative_reasons text = row_is (bytes_eq text (codes "IPNEG")) (Err NegativeImage) None (reasons_err _ _ tt) row_none

deprecated_piece_reasons : (text : List ℕ) → RowReadingReasons (deprecated_piece_row text)
unfolding deprecated_piece_row
deprecated_piece_reasons text = row_cond _ _ _ (row_some _ (reasons_err _ _ tt)) row_none

aperture_reasons : (text : List ℕ) → RowReadingReasons (block_aperture_row text)
unfolding block_aperture_row
aperture_reasons text = row_cond _ _ _ (row_some _ (reasons_err _ _ tt)) row_none

pieces_reasons : (text : List ℕ) → AllByRecursion RowReadingReasons (pieces text)
pieces_reasons text = (refused_format_reasons text, (format_reasons text, (unit_piece_reasons text, (row_map _ _ definition_reasons, (row_map _ _ macro_reasons, (polarity_reasons text, (mirror_reasons text, (transform_reasons text, (repeat_row_reasons text, (row_map _ _ file_reasons, (row_map _ _ (attribute_reasons _), (row_map _ _ (attribute_reasons _), (row_map _ _ removal_reasons, (no_effect_piece_reasons text, (neutral_axes_reasons text, (negative_reasons text, (deprecated_piece_reasons text, (aperture_reasons text, tt))))))))))))))))))

piece_reasons : (text : List ℕ) → ReadingReasons (piece text)
unfolding piece
piece_reasons text = reasons_cond (has_several_pieces text) (Err SeveralInOne) (first_match (pieces text)) (reasons_err _ SeveralInOne tt) (first_reasons (pieces text) (pieces_reasons text))

extended_reasons : (text : List ℕ) → ReadingReasons (extended_meaning text)
unfolding extended_meaning
extended_reasons text = reasons_cond (bytes_eq (last_byte text) (codes "*")) (piece (before_last text)) (Err BadWord) (piece_reasons (before_last text)) (reasons_err _ BadWord tt)

-- an extended item of the wide profile
wide_piece_reasons : (text : List ℕ) → ReadingReasons (wide_piece text)
unfolding wide_piece
wide_piece_reasons text = by (bytes_eq text (codes "LPC")) (bytes_eq text (codes "ICAS"))
  where
    by : (t u : Bool) → ReadingReasons (unwrap_or (cond t (Some (Ok (Clear ∷ []))) (cond u (Some (Ok [])) None)) (first_match (pieces text)))
    by true u = reasons_ok _
    by false true = reasons_ok _
    by false false = first_reasons (pieces text) (pieces_reasons text)

among_reasons : (text : List ℕ) → ReadingReasons (piece_among text)
unfolding piece_among
among_reasons text = reasons_cond (is_some (strip_prefix (codes "AM") text)) (Err BadWord) (wide_piece text) (reasons_err _ BadWord tt) (wide_piece_reasons text)

in_turn_reasons : (parts : List (List ℕ)) → ReadingReasons (spelled_in_turn (map piece_among parts))
in_turn_reasons [] = reasons_ok _
in_turn_reasons (part ∷ parts) = reasons_bind _ _ (among_reasons part) (λ first. reasons_bind _ _ (in_turn_reasons parts) (λ more. reasons_ok _))

wide_reasons : (text : List ℕ) → ReadingReasons (wide_pieces text)
unfolding wide_pieces
wide_reasons text = reasons_cond (has_several_pieces text) (spelled_in_turn (map piece_among (split_by 42 text))) (wide_piece text) (in_turn_reasons (split_by 42 text)) (wide_piece_reasons text)

extended_reasons_in : (profile : Profile) (text : List ℕ) → ReadingReasons (extended_in profile text)
extended_reasons_in Strict text = extended_reasons text
extended_reasons_in Wide text = reasons_cond (bytes_eq (last_byte text) (codes "*")) (wide_pieces (before_last text)) (Err BadWord) (wide_reasons (before_last text)) (reasons_err _ BadWord tt)

meaning_reasons : (profile : Profile) (latest : Option Action) (item : List ℕ) → ReadingReasons (meaning_in profile latest item)
unfolding meaning_in
meaning_reasons profile latest [] = reasons_err _ _ tt
meaning_reasons profile latest (b ∷ bs) = reasons_cond (eqb b 37) (extended_in profile (without_end bs)) (word (repeated_in profile latest) (without_end (b ∷ bs))) (extended_reasons_in profile (without_end bs)) (word_reasons (repeated_in profile latest) (without_end (b ∷ bs)))

-- ---- texts

FaultReadingReasons : Result Entries Fault → Type 0
FaultReadingReasons (Ok x) = Unit {0}
FaultReadingReasons (Err f) = IsReasonOfReading f.reason

at_reasons : (place byte : ℕ) (r : Result Entries Reason) → ReadingReasons r → FaultReadingReasons (with_place place byte r)
unfolding ReadingReasons FaultReadingReasons
at_reasons place byte (Ok x) h = tt
at_reasons place byte (Err r) h = h

fault_ok : (x : Entries) → FaultReadingReasons (Ok x)
unfolding FaultReadingReasons
fault_ok x = tt

fault_err : (f : Fault) → IsReasonOfReading f.reason → FaultReadingReasons (Err f)
unfolding FaultReadingReasons
fault_err f h = h

fault_cond : (t : Bool) (a b : Result Entries Fault) → FaultReadingReasons a → FaultReadingReasons b → FaultReadingReasons (cond t a b)
fault_cond true a b h k = h
fault_cond false a b h k = k

fault_bind : (r : Result Entries Fault) (f : Entries → Result Entries Fault) → FaultReadingReasons r → ((x : Entries) → FaultReadingReasons (f x)) → FaultReadingReasons (r >>= f)
unfolding FaultReadingReasons
fault_bind (Ok x) f h k = k x
fault_bind (Err e) f h k = h

spelled_reasons : (profile : Profile) (place byte : ℕ) (item : List ℕ) (before : Entries) → FaultReadingReasons (spelled_in profile place byte item before)
unfolding spelled_in
spelled_reasons profile place byte item before = at_reasons place byte _ (reasons_cond _ _ _ (reasons_err _ _ tt) (reasons_bind _ _ (meaning_reasons profile _ item) (λ x. reasons_ok _)))

from_reasons : (profile : Profile) (place : ℕ) (items : List (List OffsetByte)) (before : Entries) → FaultReadingReasons (commands_by profile place items before)
from_reasons profile place [] before = fault_ok _
from_reasons profile place (item ∷ items) before = fault_bind _ _ (spelled_reasons profile place _ _ before) (from_reasons profile (suc place) items)

after_end_reasons : (place : ℕ) (commands : Entries) (rest : List OffsetByte) → FaultReadingReasons (after_end place commands rest)
after_end_reasons place commands [] = fault_ok _
after_end_reasons place commands (m ∷ ms) = fault_cond _ _ _ (after_end_reasons place commands ms) (fault_err _ tt)

shown_reasons : (profile : Profile) (items : List (List OffsetByte)) (rest : List OffsetByte) → FaultReadingReasons (shown_by profile items rest)
shown_reasons profile items rest = fault_bind _ _ (from_reasons profile 1 items []) (λ commands. fault_cond _ _ _ (after_end_reasons _ commands rest) (fault_cond _ _ _ (fault_err _ tt) (fault_ok _)))

read_reasons : (profile : Profile) (len : ℕ) (items : List (List OffsetByte)) (rest : List OffsetByte) → FaultReadingReasons (read_by profile len items rest)
read_reasons profile len items rest = fault_bind _ _ (shown_reasons profile items rest) (λ commands. fault_cond _ _ _ (fault_err _ tt) (fault_cond _ _ _ (fault_ok _) (fault_err _ tt)))

err_reasons : (f : Fault) → FaultReadingReasons (Err f) → IsReasonOfReading f.reason
unfolding FaultReadingReasons
err_reasons f h = h

pub reads_reasons : (profile : Profile) (text : List ℕ) (f : Fault) → ReadsIn profile text (Err f) → IsReasonOfReading f.reason
reads_reasons profile text f r = err_reasons f (subst FaultReadingReasons (sym r.answer_is) (read_reasons profile (length text) r.items r.rest))
