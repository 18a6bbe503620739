-- What an extended item spells: the rows of its table, in their order (docs/FORMATS.md, Extended items; How a row fits and is read).
use Rattle.std.specs.Prelude.{ℕ, ◌-◌, ◌+◌, Bool, true, false, not, ◌&&◌, ◌||◌, ◌==◌, nat_le, nat_lt, List, [], ◌∷◌, length, take, drop, map, if◌then◌else◌, Option, None, Some, unwrap_or, is_some, Result, Ok, Err, codes, ℤ, pos}
use Rattle.std.specs.Str.{bytes_eq}
use Rattle.std.specs.Option.{option_map, option_or}
use Rattle.std.specs.Ordering.{int_eq}
use Rattle.std.specs.List.{list_any, list_all, prefix_len, take_while}
use Rattle.grid_units.specs.Results.{◌>>=◌, both}
use Rattle.grid_units.specs.Numbers.{is_digit, is_number_char, parse_decimal}
use Rattle.grid_units.specs.declared.fault.Reason.{Reason}
use Rattle.grid_units.specs.declared.fault.Reason.TheVariants.{SeveralInOne, ClearPolarity, BlockAperture, NegativeImage, TrailingZeros, Incremental, OldParameter, BadWord, BadNumber}
use Rattle.grid_units.specs.declared.lengths.Unit.TheVariants.{Inch, Millimetre}
use Rattle.gerber_commands.specs.declared.command.Command.TheVariants.{UnitIs, FormatIs, Define, Macro, Dark, Mirror, Turn, Scale, Repeat, RepeatEnd, Attribute, Remove}
use Rattle.gerber_commands.specs.declared.command.AttributeKind.{AttributeKind}
use Rattle.gerber_commands.specs.declared.command.AttributeKind.TheVariants as kinds
use Rattle.gerber_commands.specs.declared.command.Standard.{Standard}
use Rattle.gerber_commands.specs.declared.command.Standard.TheVariants.{Circle, Rectangle, Obround, Polygon}
use Rattle.gerber_commands.specs.declared.command.Template.TheVariants as templates
use Rattle.gerber_commands.specs.Numbers.{nat_of}
use Rattle.grid_units.specs.Rows.{strip_prefix, literal_row, split_by}
use Rattle.gerber_commands.specs.Rows.{Meaning, Row, first_match, field}
use Rattle.gerber_commands.specs.Negative.{is_negative_image}
use Rattle.grid_units.specs.Ascii as ascii

-- ---- pieces

-- the last byte of a text, as a list; no byte of the empty text (docs/FORMATS.md, Cutting)
abbrev pub last_byte : List ℕ → List ℕ
last_byte text = drop (length text - 1) text

-- the text without its last byte: `MOMM` of `MOMM*` (docs/FORMATS.md, Cutting)
abbrev pub before_last : List ℕ → List ℕ
before_last text = take (length text - 1) text

-- ---- begins `FST`; begins `FSLI`

-- trailing zeros left out, `FST..`, and incremental coordinates, `FSLI..`, are refused (Gerber format, Format specification FS)
unfoldable pub refused_format_row : List ℕ → Row
refused_format_row text = if is_some (strip_prefix (codes "FST") text) then Some (Err TrailingZeros) else if is_some (strip_prefix (codes "FSLI") text) then Some (Err Incremental) else None

-- ---- `FSLAX` i d `Y` i d

-- i whole digits and d decimals: alike on both axes, each 0 to 6, not both 0; else BadNumber (Gerber format, Format specification FS)
abbrev pub format : ℕ → ℕ → ℕ → ℕ → Meaning
format i d j e =
    if (((i == j) && (d == e)) && (nat_le i ascii.digit_six && nat_le d ascii.digit_six)) && nat_lt (ascii.digit_zero + ascii.digit_zero) (i + d) then Ok (FormatIs (record { whole = i - ascii.digit_zero; decimals = d - ascii.digit_zero }) ∷ []) else Err BadNumber

-- the digits of both axes with `Y` between them, as `46Y46` (Gerber format, Format specification FS)
abbrev pub format_fields : List ℕ → Row
format_fields (i ∷ d ∷ y ∷ j ∷ e ∷ []) = if (y == ascii.upper_y) && ((is_digit i && is_digit d) && (is_digit j && is_digit e)) then Some (format i d j e) else None
format_fields _ = None

-- how many digits coordinates have: `FSLAX46Y46` is 4 whole digits and 6 decimals (Gerber format, Format specification FS)
unfoldable pub format_row : List ℕ → Row
format_row text = format_fields (unwrap_or (strip_prefix (codes "FSLAX") text) [])

-- ---- `MOIN`, `MOMM`

-- the unit of all lengths: `MOIN` is inch, `MOMM` millimetre (Gerber format, Unit MO)
unfoldable pub unit_piece_row : List ℕ → Row
unit_piece_row text = literal_row ((codes "MOIN", Ok (UnitIs Inch ∷ [])) ∷ (codes "MOMM", Ok (UnitIs Millimetre ∷ [])) ∷ []) text

-- ---- `ADD` Nat template [`,` parameters]

-- a byte that may begin a name: a letter, `_`, `.` or `$` (Gerber format, Names)
abbrev pub is_name_start : ℕ → Bool
is_name_start b = (nat_le ascii.upper_a b && nat_le b ascii.upper_z) || ((nat_le ascii.lower_a b && nat_le b ascii.lower_z) || ((b == ascii.underscore) || ((b == ascii.point) || (b == ascii.dollar))))

-- a byte inside a name: one that a name may begin with, a digit or `-` (docs/FORMATS.md, Names, first fields, negative images)
abbrev pub is_name_byte : ℕ → Bool
is_name_byte b = is_name_start b || (is_digit b || (b == ascii.minus))

-- a name of 1 to 127 bytes, as `THERMAL80` (Gerber format, Names)
unfoldable pub is_name : List ℕ → Bool
is_name [] = false
is_name (b ∷ bs) = is_name_start b && (list_all is_name_byte bs && nat_lt (length bs) 127)

-- the standard aperture of a name: `C`, `R`, `O` or `P` (Gerber format, Standard aperture templates)
abbrev pub standard_template : List ℕ → Option Standard
standard_template name =
    if bytes_eq name (codes "C") then Some Circle
    else if bytes_eq name (codes "R") then Some Rectangle
    else if bytes_eq name (codes "O") then Some Obround
    else if bytes_eq name (codes "P") then Some Polygon else None

-- the least number of parameters: 1 for a circle, 2 for the others (Gerber format, Standard aperture templates)
abbrev pub min_sizes : Standard → ℕ
min_sizes Circle = 1
min_sizes _ = 2

-- the greatest number of parameters, two hole sizes among them: 3 for `C`, 4 for `R` and `O`, 5 for `P` (docs/FORMATS.md, Apertures)
abbrev pub max_sizes : Standard → ℕ
max_sizes Circle = 3
max_sizes Rectangle = 4
max_sizes Obround = 4
max_sizes Polygon = 5

-- the values of all fields: every field is read, and the first reason in the reading order is the answer
abbrev pub all_values : {A : Type 0} → List (Result A Reason) → Result (List A) Reason
all_values [] = Ok []
all_values (field ∷ fields) = both field (all_values fields) >>= λ p. Ok (p.0 ∷ p.1)

-- each parameter is a run, and there are as many as the aperture takes (docs/FORMATS.md, Apertures)
abbrev pub are_sizes : Standard → List (List ℕ) → Bool
are_sizes aperture runs = list_all (list_all is_number_char) runs && (nat_le (min_sizes aperture) (length runs) && nat_le (length runs) (max_sizes aperture))

-- the parameters of a standard aperture in units of 10^-8: `0.5X1` gives 50000000 and 100000000 (docs/FORMATS.md, Apertures)
unfoldable pub sizes_of : Standard → Option (List ℕ) → Result (List ℤ) Reason
sizes_of aperture None = Err BadWord
sizes_of aperture (Some text) = if are_sizes aperture (split_by ascii.upper_x text) then all_values (map parse_decimal (split_by ascii.upper_x text)) else Err BadWord

-- the number of an aperture, at least 10, else BadNumber (Gerber format, Aperture definition AD)
unfoldable pub aperture_number : List ℕ → Result ℕ Reason
aperture_number digits = nat_of digits >>= λ n. if nat_lt n 10 then Err BadNumber else Ok n

-- a standard aperture: `%ADD10C,0.5*%` is a circle with diameter 0.5 (Gerber format, Standard aperture templates)
unfoldable pub define_standard : List ℕ → Standard → Option (List ℕ) → Meaning
define_standard digits aperture parameters = both (aperture_number digits) (sizes_of aperture parameters) >>= λ p. Ok (Define p.0 (templates.Standard aperture p.1) ∷ [])

-- a macro aperture, as `%ADD11THERMAL80*%`; a text after a comma is not read (Gerber format, Aperture definition AD)
unfoldable pub define_named : List ℕ → List ℕ → Option (List ℕ) → Meaning
define_named digits name parameters = aperture_number digits >>= λ n. Ok (Define n (templates.Named name parameters) ∷ [])

-- an aperture of a standard template, or of the macro with this name (Gerber format, Aperture definition AD)
abbrev pub define_template : List ℕ → List ℕ → Option Standard → Option (List ℕ) → Meaning
define_template digits name None parameters = define_named digits name parameters
define_template digits name (Some aperture) parameters = define_standard digits aperture parameters

-- the text before the first comma, all of it where there is none (docs/FORMATS.md, Names, first fields, negative images)
abbrev pub before_comma : List ℕ → List ℕ
before_comma text = take (prefix_len (λ b. not (b == ascii.comma)) text) text

-- the text after the first comma, if there is one: `0.5` of `C,0.5` (docs/FORMATS.md, Names, first fields, negative images)
abbrev pub after_comma : List ℕ → Option (List ℕ)
after_comma text = if nat_lt (prefix_len (λ b. not (b == ascii.comma)) text) (length text) then Some (drop (prefix_len (λ b. not (b == ascii.comma)) text + 1) text) else None

-- the aperture of these digits and of a template with its parameters: `10` and `C,0.5` (Gerber format, Aperture definition AD)
unfoldable pub define : List ℕ → List ℕ → Meaning
define digits text = if is_name (before_comma text) then define_template digits (before_comma text) (standard_template (before_comma text)) (after_comma text) else Err BadWord

-- the aperture of what follows `ADD`: a number and a template, as `10C,0.5` (Gerber format, Aperture definition AD)
unfoldable pub definition : List ℕ → Meaning
definition rest = define (take_while is_digit rest) (drop (prefix_len is_digit rest) rest)

-- the definition of an aperture, as `ADD10C,0.5` (Gerber format, Aperture definition AD)
abbrev pub define_row : List ℕ → Row
define_row text = option_map definition (strip_prefix (codes "ADD") text)

-- ---- `AM` name, further pieces

-- a macro of these pieces, the first of them its name, which is not `C`, `R`, `O` or `P` (Gerber format, Aperture macro AM)
abbrev pub macro_of : List (List ℕ) → Meaning
macro_of [] = Err BadWord
macro_of (name ∷ pieces) = if is_name name && not (is_some (standard_template name)) then Ok (Macro name pieces ∷ []) else Err BadWord

-- a macro's name and its pieces, divided at each `*`: `DONUT*1,1,0.5,0,0` has one piece (Gerber format, Aperture macro AM)
unfoldable pub macro_definition : List ℕ → Meaning
macro_definition text = macro_of (split_by ascii.asterisk text)

-- the definition of a macro, as `AMDONUT*1,1,0.5,0,0` (Gerber format, Aperture macro AM)
abbrev pub macro_row : List ℕ → Row
macro_row text = option_map macro_definition (strip_prefix (codes "AM") text)

-- ---- `LPD`; `LPC`; `LM`

-- `LPD`, dark polarity; `LPC`, clear polarity, is refused (Gerber format, Load polarity LP)
unfoldable pub polarity_row : List ℕ → Row
polarity_row text = literal_row ((codes "LPD", Ok (Dark ∷ [])) ∷ (codes "LPC", Err ClearPolarity) ∷ []) text

-- the axes of mirroring: none with `LMN`, both with `LMXY` (Gerber format, Load mirroring LM)
unfoldable pub mirror_row : List ℕ → Row
mirror_row text = literal_row ((codes "LMN", Ok (Mirror false false ∷ [])) ∷ (codes "LMX", Ok (Mirror true false ∷ [])) ∷ (codes "LMY", Ok (Mirror false true ∷ [])) ∷ (codes "LMXY", Ok (Mirror true true ∷ [])) ∷ []) text

-- ---- `LR` Dec; `LS` Dec

-- the run after this prefix, if nothing else follows it: `90` of `LR90` after `LR`
abbrev pub run_after : List ℕ → List ℕ → Option (List ℕ)
run_after prefix text = if list_all is_number_char (unwrap_or (strip_prefix prefix text) []) then strip_prefix prefix text else None

-- a rotation in degrees, counterclockwise, from its run: `90` of `LR90` (Gerber format, Load rotation LR)
unfoldable pub turn : List ℕ → Meaning
turn run = parse_decimal run >>= λ degrees. Ok (Turn degrees ∷ [])

-- a scale factor from its run: `0.5` of `LS0.5` (Gerber format, Load scaling LS)
unfoldable pub scale : List ℕ → Meaning
scale run = parse_decimal run >>= λ factor. Ok (Scale factor ∷ [])

-- a rotation, as `LR90`, or a scaling, as `LS0.5` (Gerber format, Load rotation LR)
unfoldable pub transform_row : List ℕ → Row
transform_row text = option_or (option_map turn (run_after (codes "LR") text)) (option_map scale (run_after (codes "LS") text))

-- ---- `SRX` Nat `Y` Nat `I` Dec `J` Dec; `SR`

-- the two counts and the two steps, or the first reason in the reading order
unfoldable pub block_fields : List ℕ → List ℕ → List ℕ → List ℕ → Result ((ℕ × ℕ) × (ℤ × ℤ)) Reason
block_fields x y i j = both (both (nat_of x) (nat_of y)) (both (parse_decimal i) (parse_decimal j))

-- a block of columns and rows, with steps along x and y in units of 10^-8 (Gerber format, Step and repeat SR)
unfoldable pub repeat : List ℕ → List ℕ → List ℕ → List ℕ → Meaning
repeat x y i j = block_fields x y i j >>= λ p. Ok (Repeat (record { columns = p.0.0; rows = p.0.1; step_x = p.1.0; step_y = p.1.1 }) ∷ [])

-- the block of these four runs, if all of them stand and nothing is left over (Gerber format, Step and repeat SR)
abbrev pub repeat_fields : Option (List ℕ) → Option (List ℕ) → Option (List ℕ) → Option (List ℕ) → List ℕ → Row
repeat_fields (Some x) (Some y) (Some i) (Some j) [] = Some (repeat x y i j)
repeat_fields _ _ _ _ _ = None

-- the block of what follows `SR`: `X2Y1I5J0` is 2 columns, 5 apart, and 1 row (Gerber format, Step and repeat SR)
unfoldable pub repeat_start : List ℕ → Row
repeat_start text =
    let x = field is_digit ascii.upper_x text in
    let y = field is_digit ascii.upper_y x.1 in
    let i = field is_number_char ascii.upper_i y.1 in
    let j = field is_number_char ascii.upper_j i.1 in
    repeat_fields x.0 y.0 i.0 j.0 j.1

-- the start of a step and repeat block, as `SRX2Y1I5J0`, or its end, `SR` (Gerber format, Step and repeat SR)
unfoldable pub repeat_row : List ℕ → Row
repeat_row text = if bytes_eq text (codes "SR") then Some (Ok (RepeatEnd ∷ [])) else repeat_start (unwrap_or (strip_prefix (codes "SR") text) [])

-- ---- `TF`, `TA`, `TO`, `TD` and a text

-- a file attribute, or NegativeImage (Gerber format, File attributes TF)
unfoldable pub file_attribute : List ℕ → Meaning
file_attribute text = if is_negative_image text then Err NegativeImage else Ok (Attribute kinds.File text ∷ [])

-- an attribute of an aperture or of an object (Gerber format, Aperture attributes TA, Object attributes TO)
unfoldable pub attribute : AttributeKind → List ℕ → Meaning
attribute kind text = Ok (Attribute kind text ∷ [])

-- the deletion of the attribute with this name, or of all where the text is empty (Gerber format, Delete TD)
unfoldable pub removal : List ℕ → Meaning
removal text = Ok (Remove text ∷ [])

-- a file attribute, as `TF.FileFunction,Copper,L1,Top` (Gerber format, File attributes TF)
abbrev pub file_row : List ℕ → Row
file_row text = option_map file_attribute (strip_prefix (codes "TF") text)

-- an aperture attribute, as `TA.AperFunction,ViaPad` (Gerber format, Aperture attributes TA)
abbrev pub aperture_row : List ℕ → Row
aperture_row text = option_map (attribute kinds.Aperture) (strip_prefix (codes "TA") text)

-- an object attribute, as `TO.N,GND` (Gerber format, Object attributes TO)
abbrev pub object_row : List ℕ → Row
object_row text = option_map (attribute kinds.Object) (strip_prefix (codes "TO") text)

-- the deletion of attributes, as `TD.AperFunction` or `TD` (Gerber format, Delete TD)
abbrev pub removal_row : List ℕ → Row
removal_row text = option_map removal (strip_prefix (codes "TD") text)

-- ---- older parameters

-- a decimal was read, and it has this value, in units of 10^-8
abbrev pub has_value : ℤ → Result ℤ Reason → Bool
has_value v (Ok d) = int_eq d v
has_value v (Err _) = false

-- the run is left out, or is a decimal of this value in units of 10^-8
abbrev pub is_omitted_or : ℤ → Option (List ℕ) → Bool
is_omitted_or v None = true
is_omitted_or v (Some run) = has_value v (parse_decimal run)

-- `IR` and a decimal of 0, as `IR0` (Gerber format, Deprecated image rotation IR)
abbrev pub is_zero_rotation : List ℕ → Bool
is_zero_rotation text = is_some (strip_prefix (codes "IR") text) && is_omitted_or (pos 0) (strip_prefix (codes "IR") text)

-- [`A` Dec] [`B` Dec] and nothing else, each Dec of this value: `A0B0` (Gerber format, Deprecated commands)
unfoldable pub axes_equal : ℤ → List ℕ → Bool
axes_equal v text =
    let a = field is_number_char ascii.upper_a text in
    let b = field is_number_char ascii.upper_b a.1 in
    (length b.1 == 0) && (is_omitted_or v a.0 && is_omitted_or v b.0)

-- this parameter, with this value on each axis that stands: `OFA0B0` (Gerber format, Deprecated commands)
abbrev pub has_no_effect : List ℕ → ℤ → List ℕ → Bool
has_no_effect prefix v text = unwrap_or (option_map (axes_equal v) (strip_prefix prefix text)) false

-- 1 in units of 10^-8 (docs/FORMATS.md, The three kinds of number)
abbrev pub unit_scale : ℤ
unit_scale = pos 100000000

-- parameters without effect: `IPPOS`, `IR` Dec zero, `ASAXBY`, `IN` text, `LN` text (Gerber format, Deprecated commands)
unfoldable pub no_effect_piece_row : List ℕ → Row
no_effect_piece_row text =
    if bytes_eq text (codes "IPPOS") || (is_zero_rotation text || (bytes_eq text (codes "ASAXBY") || (is_some (strip_prefix (codes "IN") text) || is_some (strip_prefix (codes "LN") text)))) then Some (Ok [])
    else None

-- an offset or mirroring of 0 and a scaling of 1 have no effect: `OFA0B0`, `MIA0B0`, `SFA1B1` (Gerber format, Deprecated commands)
unfoldable pub neutral_axes_row : List ℕ → Row
neutral_axes_row text = if has_no_effect (codes "OF") (pos 0) text || (has_no_effect (codes "MI") (pos 0) text || has_no_effect (codes "SF") unit_scale text) then Some (Ok []) else None

-- `IPNEG`, a negative image, which is refused (Gerber format, Deprecated image polarity IP)
unfoldable pub negative_row : List ℕ → Row
negative_row text = literal_row ((codes "IPNEG", Err NegativeImage) ∷ []) text

-- `OF`, `MI`, `SF`, `AS` and `IR` with an effect, as `IR90`, which are refused (Gerber format, Deprecated commands)
unfoldable pub deprecated_piece_row : List ℕ → Row
deprecated_piece_row text =
    if is_some (strip_prefix (codes "OF") text) || (is_some (strip_prefix (codes "MI") text) || (is_some (strip_prefix (codes "SF") text) || (is_some (strip_prefix (codes "AS") text) || is_some (strip_prefix (codes "IR") text)))) then Some (Err OldParameter)
    else None

-- a block aperture, as `ABD12`, which is refused (Gerber format, block aperture AB)
unfoldable pub block_aperture_row : List ℕ → Row
block_aperture_row text = if is_some (strip_prefix (codes "AB") text) then Some (Err BlockAperture) else None

-- ---- the table

-- the rows of the older parameters, and of block apertures
abbrev pub deprecated_pieces : List ℕ → List Row
deprecated_pieces text =
    no_effect_piece_row text
    ∷ neutral_axes_row text
    ∷ negative_row text
    ∷ deprecated_piece_row text
    ∷ block_aperture_row text
    ∷ []

-- the rows from file attributes on
abbrev pub pieces_from_attributes : List ℕ → List Row
pieces_from_attributes text =
    file_row text
    ∷ aperture_row text
    ∷ object_row text
    ∷ removal_row text
    ∷ deprecated_pieces text

-- the rows from polarity on
abbrev pub pieces_from_polarity : List ℕ → List Row
pieces_from_polarity text =
    polarity_row text
    ∷ mirror_row text
    ∷ transform_row text
    ∷ repeat_row text
    ∷ pieces_from_attributes text

-- all rows of pieces
abbrev pub pieces : List ℕ → List Row
pieces text =
    refused_format_row text
    ∷ format_row text
    ∷ unit_piece_row text
    ∷ define_row text
    ∷ macro_row text
    ∷ pieces_from_polarity text

-- there is more than one piece, and no macro is defined: `FSLAX24Y24*MOMM` (docs/FORMATS.md, Cutting)
abbrev pub has_several_pieces : List ℕ → Bool
has_several_pieces text = list_any (λ b. b == ascii.asterisk) text && not (is_some (strip_prefix (codes "AM") text))

-- The contents of an item without its last `*`: one piece, or a macro with its pieces.
unfoldable pub piece : List ℕ → Meaning
piece text = if has_several_pieces text then Err SeveralInOne else first_match (pieces text)

-- An extended item between its two `%`, as `MOMM*`: BadWord unless it ends with `*`.
unfoldable pub extended_meaning : List ℕ → Meaning
extended_meaning text = if bytes_eq (last_byte text) (codes "*") then piece (before_last text) else Err BadWord
