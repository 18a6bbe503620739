-- Which commands some item of a Gerber text spells in the strict profile: the ranges of their numbers, and the bytes of their texts
-- (docs/FORMATS.md, The canonical Gerber text).
use Rattle.std.specs.Prelude.{ℕ, ◌+◌, ◌^◌, ℤ, Bool, true, false, not, ◌||◌, ◌&&◌, ◌==◌, nat_le, nat_lt, unsigned_abs, List, length, Option, None, Some, is_some}
use Rattle.std.specs.List.{list_all}
use Rattle.grid_units.specs.Numbers.{max_units}
use Rattle.gerber_commands.specs.declared.command.Command.{Command}
use Rattle.gerber_commands.specs.declared.command.Command.TheVariants.{Comment, FormatIs, Define, Macro, Select, Operate, Clear, Turn, Scale, Repeat, Attribute, Remove, Finish}
use Rattle.gerber_commands.specs.declared.command.Format.{Format}
use Rattle.gerber_commands.specs.declared.command.StepRepeat.{StepRepeat}
use Rattle.gerber_commands.specs.declared.command.Action.{Action}
use Rattle.gerber_commands.specs.declared.command.AttributeKind.{AttributeKind}
use Rattle.gerber_commands.specs.declared.command.AttributeKind.TheVariants as kinds
use Rattle.gerber_commands.specs.declared.command.Template.{Template}
use Rattle.gerber_commands.specs.declared.command.Template.TheVariants as templates
use Rattle.gerber_commands.specs.declared.command.Standard.{Standard}
use Rattle.gerber_text.specs.Items.{is_line_break}
use Rattle.gerber_commands.specs.Negative.{is_negative_comment}
use Rattle.gerber_commands.specs.Words.{is_plot}
use Rattle.gerber_commands.specs.Negative.{is_negative_image}
use Rattle.gerber_commands.specs.Pieces.{is_name, standard_template, min_sizes, max_sizes}
use Rattle.gerber_commands.specs.Canonical.{canonical}
use Rattle.gerber_text.specs.CutItems.{without_breaks}
use Rattle.grid_units.specs.Limits.{item_limit}
use Rattle.grid_units.specs.Ascii as ascii

-- ---- fields

-- neither `*` nor `%`, which end items, nor CR nor LF, which are dropped (docs/FORMATS.md, How a row fits and is read)
abbrev pub is_text_byte : ℕ → Bool
is_text_byte b = not ((b == ascii.asterisk) || ((b == ascii.percent) || is_line_break b))

-- a text that an item can hold, the empty one too (docs/FORMATS.md, How a row fits and is read)
abbrev pub is_text : List ℕ → Bool
is_text text = list_all is_text_byte text

-- such a text, or no text (docs/FORMATS.md, How a row fits and is read)
abbrev pub is_optional_text : Option (List ℕ) → Bool
is_optional_text None = true
is_optional_text (Some text) = is_text text

-- a Nat: a whole number without a sign, at most 2,147,483,647 (docs/FORMATS.md, The three kinds of number)
abbrev pub is_nat : ℕ → Bool
is_nat n = nat_le n 2147483647

-- an Int: a whole number with at most 12 digits, whatever its sign (docs/FORMATS.md, The three kinds of number)
abbrev pub is_int : ℤ → Bool
is_int z = nat_lt (unsigned_abs z) (10 ^ 12)

-- an Int, or a coordinate that is left out (docs/FORMATS.md, The three kinds of number)
abbrev pub is_optional_int : Option ℤ → Bool
is_optional_int None = true
is_optional_int (Some z) = is_int z

-- a Dec in units of 10^-8: at most 999,999.99999999 from zero (docs/FORMATS.md, The three kinds of number)
abbrev pub is_dec : ℤ → Bool
is_dec v = nat_le (unsigned_abs v) max_units

-- ---- kinds of commands

-- the digits of a format, as 4 and 6: none above 6, not both 0 (docs/FORMATS.md, Extended items)
abbrev pub is_format : Format → Bool
is_format f = nat_le f.whole 6 && (nat_le f.decimals 6 && nat_le 1 (f.whole + f.decimals))

-- the number of an aperture: 10 to 2,147,483,647 (docs/FORMATS.md, Apertures)
abbrev pub is_aperture_number : ℕ → Bool
is_aperture_number n = nat_le 10 n && is_nat n

-- the name of a macro, as `THERMAL80`: any name but `C`, `R`, `O` and `P` (docs/FORMATS.md, Apertures)
abbrev pub is_macro_name : List ℕ → Bool
is_macro_name name = is_name name && not (is_some (standard_template name))

-- the parameters of a standard aperture: each a Dec, and as many as it takes (docs/FORMATS.md, Apertures)
abbrev pub are_parameters : Standard → List ℤ → Bool
are_parameters aperture sizes = list_all is_dec sizes && (nat_le (min_sizes aperture) (length sizes) && nat_le (length sizes) (max_sizes aperture))

-- a standard aperture with its parameters, or the name of a macro with or without a text (docs/FORMATS.md, Apertures)
abbrev pub is_template : Template → Bool
is_template (templates.Standard aperture sizes) = are_parameters aperture sizes
is_template (templates.Named name parameters) = is_macro_name name && is_optional_text parameters

-- an operation: its coordinates are Ints, and only a plot has the offsets I and J (docs/FORMATS.md, Words)
abbrev pub is_operation : Action → Option ℤ → Option ℤ → Option ℤ → Option ℤ → Bool
is_operation action x y i j = (is_optional_int x && is_optional_int y) && ((is_optional_int i && is_optional_int j) && (is_plot action || not (is_some i || is_some j)))

-- a step and repeat block: its counts are Nats and its steps Decs (docs/FORMATS.md, Extended items)
abbrev pub is_block : StepRepeat → Bool
is_block b = (is_nat b.columns && is_nat b.rows) && (is_dec b.step_x && is_dec b.step_y)

-- an attribute: any text, but one of the file must not make the image negative (docs/FORMATS.md, Names, first fields, negative images)
abbrev pub is_attribute : AttributeKind → List ℕ → Bool
is_attribute kinds.File text = is_text text && not (is_negative_image text)
is_attribute kinds.Aperture text = is_text text
is_attribute kinds.Object text = is_text text

-- ---- commands

-- Some item spells a command with these fields, whatever the item's length: there is one for Select(10), and none for Select(9) and for
-- Clear, which only the wide profile reads.
unfoldable pub has_valid_fields : Command → Bool
has_valid_fields (Comment text) = is_text text && not (is_negative_comment text)
has_valid_fields (FormatIs format) = is_format format
has_valid_fields (Define number template) = is_aperture_number number && is_template template
has_valid_fields (Macro name pieces) = is_macro_name name && list_all is_text pieces
has_valid_fields (Select number) = is_aperture_number number
has_valid_fields (Operate action x y i j) = is_operation action x y i j
has_valid_fields Clear = false
has_valid_fields (Turn degrees) = is_dec degrees
has_valid_fields (Scale factor) = is_dec factor
has_valid_fields (Repeat block) = is_block block
has_valid_fields (Attribute kind text) = is_attribute kind text
has_valid_fields (Remove text) = is_text text
has_valid_fields _ = true

-- the canonical item of a command is at most 1,048,576 bytes long without its line breaks
abbrev pub is_short : Command → Bool
is_short command = nat_le (length (without_breaks (canonical command))) item_limit

-- A command is sayable where some item spells it and its canonical item is within the limit. By a law this is `IsSpelled`.
abbrev pub is_sayable : Command → Bool
is_sayable command = has_valid_fields command && is_short command

-- Finish, the end of the text (Gerber format, End-of-file M02)
abbrev pub is_finish : Command → Bool
is_finish Finish = true
is_finish _ = false
