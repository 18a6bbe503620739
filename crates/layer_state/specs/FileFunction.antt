-- The file function that a list of commands names (docs/FORMATS.md, File function).
use Rattle.std.specs.Prelude.{ℕ, Bool, ◌==◌, List, Option, Some, None, if◌then◌else◌, codes}
use Rattle.std.specs.Option.{option_and_then}
use Rattle.std.specs.List.{before_first, after_first}
use Rattle.std.specs.Str.{bytes_eq}
use Rattle.grid_units.specs.Lists.{last_set}
use Rattle.grid_units.specs.Rows.{strip_prefix}
use Rattle.gerber_commands.specs.Negative.{after_spaces}
use Rattle.gerber_commands.specs.declared.command.AttributeKind.TheVariants as kinds
use Rattle.gerber_commands.specs.declared.command.Command.{Command}
use Rattle.gerber_commands.specs.declared.command.Command.TheVariants as command
use Rattle.grid_units.specs.Ascii as ascii

-- the byte between the fields of an attribute (Gerber format, Attributes)
abbrev pub is_comma : ℕ → Bool
is_comma b = b == ascii.comma

-- what follows `.FileFunction,`: `Copper,L1,Top` in `.FileFunction,Copper,L1,Top`; empty where no comma follows (Gerber format, .FileFunction)
abbrev pub file_function_in : List ℕ → Option (List ℕ)
file_function_in attribute = if bytes_eq (before_first is_comma attribute) (codes ".FileFunction") then Some (after_first is_comma attribute) else None

-- the file function in a file attribute, or in a comment such as `G04 #@! TF.FileFunction,Copper,L1,Top*` (Gerber format, Attributes in comments)
abbrev pub function_set : Command → Option (List ℕ)
function_set (command.Attribute kinds.File text) = file_function_in text
function_set (command.Comment text) = option_and_then file_function_in (strip_prefix (codes "#@! TF") (after_spaces text))
function_set _ = None

-- the last file function that the commands name; removing an attribute takes none back
abbrev pub file_function_of : List Command → Option (List ℕ)
file_function_of commands = last_set function_set commands
