-- What a comment says of the holes of the tools after it, or of all holes of the file (docs/FORMATS.md, Mixed drill files; Unplated drill files).
use Rattle.std.specs.Prelude.{ℕ, Bool, true, false, ◌||◌, ◌==◌, List, length, take, drop, codes, if◌then◌else◌, Option, Some, None}
use Rattle.std.specs.List.{after_first, before_first, prefix_len}
use Rattle.std.specs.Str.{bytes_eq}
use Rattle.grid_units.specs.Ascii as ascii
use Rattle.drill_lines.specs.declared.plating.Plating.{Plating}
use Rattle.drill_lines.specs.declared.plating.Plating.TheVariants.{Plated, Unplated, Unsaid}

-- a space
abbrev pub is_space : ℕ → Bool
is_space b = b == ascii.space

-- a comma, which separates the fields of an attribute
abbrev pub is_comma : ℕ → Bool
is_comma b = b == ascii.comma

-- the text without the spaces before it, as `#@! TD` of ` #@! TD`
abbrev pub without_spaces : List ℕ → List ℕ
without_spaces text = drop (prefix_len is_space text) text

-- the attributes are taken back that may have said it: all of them, or the aperture function
abbrev pub takes_back : List ℕ → Bool
takes_back text = bytes_eq text (codes "#@! TD") || bytes_eq (take (length (codes "#@! TD.AperFunction")) text) (codes "#@! TD.AperFunction")

-- what the word of an aperture function says: `Plated`, `NonPlated`, or neither, as `ViaDrill` does
abbrev pub function_plating : List ℕ → Plating
function_plating word = if bytes_eq word (codes "Plated") then Plated else if bytes_eq word (codes "NonPlated") then Unplated else Unsaid

-- what an attribute says: `#@! TA.AperFunction,Plated,PTH,ViaDrill` that holes are plated. Other attributes say nothing of it
abbrev pub attribute_plating : List ℕ → Option Plating
attribute_plating text =
    if takes_back text then Some Unsaid
    else if bytes_eq (before_first is_comma text) (codes "#@! TA.AperFunction") then Some (function_plating (before_first is_comma (after_first is_comma text)))
    else None

-- what the text of a comment says of the tools after it, if anything: `TYPE=PLATED` that their holes are plated, `TYPE=NON_PLATED` that they are not
unfoldable pub said_plating : List ℕ → Option Plating
said_plating text =
    if bytes_eq text (codes "TYPE=PLATED") then Some Plated
    else if bytes_eq text (codes "TYPE=NON_PLATED") then Some Unplated
    else attribute_plating (without_spaces text)

-- what a file function says of all holes of its file: `#@! TF.FileFunction,Plated,1,2,PTH` that they are plated. Other attributes say nothing of it
abbrev pub file_plating : List ℕ → Option Plating
file_plating text =
    if bytes_eq (before_first is_comma text) (codes "#@! TF.FileFunction") then Some (function_plating (before_first is_comma (after_first is_comma text)))
    else None

-- it is said that holes are plated
abbrev pub is_plated_said : Option Plating → Bool
is_plated_said (Some Plated) = true
is_plated_said _ = false

-- it is said that holes are not plated
abbrev pub is_unplated_said : Option Plating → Bool
is_unplated_said (Some Unplated) = true
is_unplated_said _ = false

-- the text of a comment says that holes are plated: those of the tools after it, as `TYPE=PLATED` does, or those of the whole file
unfoldable pub says_plated : List ℕ → Bool
says_plated text = is_plated_said (said_plating text) || is_plated_said (file_plating (without_spaces text))

-- the text of a comment says that holes are not plated: those of the tools after it, as `TYPE=NON_PLATED` does, or those of the whole file
unfoldable pub says_unplated : List ℕ → Bool
says_unplated text = is_unplated_said (said_plating text) || is_unplated_said (file_plating (without_spaces text))
