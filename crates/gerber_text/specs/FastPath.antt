-- Operations at the start of a text, written as most are: `G01X10Y20D01*`; comments and attributes there: `G04 top copper*`, `%TA.AperFunction,ViaPad*%`.
use Rattle.std.specs.Prelude.{◌≡◌, ℕ, ◌+◌, ◌<◌, ◌≤◌, Bool, true, false, List, [], ◌∷◌, ◌++◌, length, take, Option, None, Some, IfSome, Ok, codes, ℤ}
use Rattle.std.specs.List.{AllByRecursion}
use Rattle.grid_units.specs.Numbers.{is_number_char}
use Rattle.gerber_commands.specs.declared.command.Action.{Action}
use Rattle.gerber_commands.specs.declared.command.Command.{Command}
use Rattle.gerber_commands.specs.declared.command.Command.TheVariants.{Attribute, Comment, Operate, Remove}
use Rattle.gerber_commands.specs.declared.command.Interpolation.{Interpolation}
use Rattle.gerber_commands.specs.declared.command.Interpolation.TheVariants.{Linear, Clockwise, Counterclockwise}
use Rattle.grid_units.specs.Limits.{item_limit}
use Rattle.gerber_commands.specs.declared.command.AttributeKind.TheVariants as attributes
use Rattle.gerber_commands.specs.Negative.{is_negative_comment, is_negative_image}
use Rattle.gerber_commands.specs.PieceGrammar.{HasNo}
use Rattle.gerber_text.specs.declared.text_items.LeadingText.{LeadingText}
use Rattle.gerber_text.specs.declared.text_items.TextKind.{TextKind}
use Rattle.gerber_text.specs.declared.text_items.TextKind.TheVariants as kinds
use Rattle.gerber_text.specs.Items.{is_line_break, IsItem, is_end_item}
use Rattle.grid_units.specs.declared.profile.Profile.{Profile}
use Rattle.gerber_text.specs.Meaning.{meaning_in}
use Rattle.gerber_commands.specs.Numbers.{int_of}
use Rattle.gerber_commands.specs.Rows.{modes_of}
use Rattle.gerber_text.specs.declared.fast_path.LeadingOperation.{LeadingOperation}
use Rattle.gerber_commands.specs.Words.{coordinate}
use Rattle.grid_units.specs.Ascii as ascii

-- The bytes begin with an item of this length, at most 64, without line breaks and not the end of the text. Whatever stands
-- before it, it spells just these commands, in each profile (docs/FORMATS.md, Cutting).
pub record HasLeadingOperation (bytes : List ℕ) (len : ℕ) (commands : List Command) : Type 0 where
  pub some : 0 < len
  pub within : len ≤ length bytes
  pub short : len ≤ 64
  pub one : IsItem (take len bytes)
  pub kept : AllByRecursion (λ b. is_line_break b ≡ false) (take len bytes)
  pub goes_on : is_end_item (take len bytes) ≡ false
  pub parses : (profile : Profile) (latest : Option Action) → meaning_in profile latest (take len bytes) ≡ Ok commands

-- The bytes are an Int of this value, at most 13 bytes long, and this rest: `-50Y3` is -50 and `Y3` (docs/FORMATS.md, Runs).
pub record HasLeadingInt (bytes : List ℕ) (n : ℤ) (rest : List ℕ) : Type 0 where
  pub run : List ℕ
  pub whole : bytes ≡ run ++ rest
  pub numbers : AllByRecursion (λ b. is_number_char b ≡ true) run
  pub short : length run ≤ 13
  pub value : int_of run ≡ Ok n

-- the word of an interpolation before an operation, `G01` for a line, or nothing (Gerber format, Plot state G01, G02, G03)
abbrev pub mode_prefix : Option Interpolation → List ℕ
mode_prefix None = []
mode_prefix (Some Linear) = codes "G01"
mode_prefix (Some Clockwise) = codes "G02"
mode_prefix (Some Counterclockwise) = codes "G03"

-- the letter and run of a coordinate, as `X10`; nothing where it is left out (Gerber format, Coordinate data)
abbrev pub coordinate_field : ℕ → Option (List ℕ) → List ℕ
coordinate_field letter None = []
coordinate_field letter (Some run) = letter ∷ run

-- The bytes are a coordinate of this letter and value, or none where it is left out, and this rest (Gerber format, Coordinate data).
pub record HasLeadingCoordinate (letter : ℕ) (bytes : List ℕ) (value : Option ℤ) (rest : List ℕ) : Type 0 where
  pub run : Option (List ℕ)
  pub whole : bytes ≡ coordinate_field letter run ++ rest
  pub numbers : IfSome run (AllByRecursion (λ b. is_number_char b ≡ true))
  pub short : length (coordinate_field letter run) ≤ 14
  pub value_is : coordinate run ≡ Ok value

-- the interpolation before an operation, if there is one, and the operation
abbrev pub operation_commands : LeadingOperation → List Command
operation_commands found = modes_of found.mode ++ Operate found.action found.x found.y found.i found.j ∷ []

-- the three bytes before the text of a comment or an attribute, as `G04` or `%TF` (Gerber format, Comment G04; Attributes)
abbrev pub text_code : TextKind → List ℕ
text_code kinds.Comment = codes "G04"
text_code (kinds.Attribute attributes.File) = codes "%TF"
text_code (kinds.Attribute attributes.Aperture) = codes "%TA"
text_code (kinds.Attribute attributes.Object) = codes "%TO"
text_code kinds.Remove = codes "%TD"

-- what ends an item after its text (Gerber format, Commands)
abbrev pub text_end : TextKind → List ℕ
text_end kinds.Comment = codes "*"
text_end (kinds.Attribute which) = codes "*%"
text_end kinds.Remove = codes "*%"

-- the command that a text is (Gerber format, Comment G04; Attributes)
abbrev pub text_command : TextKind → List ℕ → Command
text_command kinds.Comment text = Comment text
text_command (kinds.Attribute which) text = Attribute which text
text_command kinds.Remove text = Remove text

-- the text of a comment or a file attribute makes the image negative: `.FilePolarity,Negative` (Gerber format, .FilePolarity)
abbrev pub is_negative_text : TextKind → List ℕ → Bool
is_negative_text kinds.Comment text = is_negative_comment text
is_negative_text (kinds.Attribute attributes.File) text = is_negative_image text
is_negative_text (kinds.Attribute attributes.Aperture) text = false
is_negative_text (kinds.Attribute attributes.Object) text = false
is_negative_text kinds.Remove text = false

-- The bytes begin with an item of such a text: it has no line breaks, `*` or `%`, makes no image negative, and the item is within
-- the limit: `G04 top copper*` (docs/FORMATS.md, Words; Extended items; Cutting).
pub record HasLeadingText (bytes : List ℕ) (found : LeadingText) : Type 0 where
  pub text : List ℕ
  pub rest : List ℕ
  pub whole : bytes ≡ text_code found.kind ++ text ++ text_end found.kind ++ rest
  pub long : length text ≡ found.text_len
  pub item_long : found.len ≡ 3 + (found.text_len + length (text_end found.kind))
  pub one_line : AllByRecursion (λ b. is_line_break b ≡ false) text
  pub no_star : HasNo ascii.asterisk text
  pub no_percent : HasNo ascii.percent text
  pub positive : is_negative_text found.kind text ≡ false
  pub short : found.len ≤ item_limit
