-- The canonical line of a command, and which commands a line spells (docs/FORMATS.md, Canonical drill text).
use Rattle.std.specs.Prelude.{ℕ, ◌≤◌, ℤ, Bool, true, false, not, ◌||◌, ◌&&◌, ◌==◌, nat_lt, nat_le, unsigned_abs, List, [], ◌∷◌, ◌++◌, length, replicate, decimal, Option, Some, None, is_some, codes}
use Rattle.std.specs.List.{list_any}
use Rattle.grid_units.specs.declared.lengths.Unit.{Unit as Units}
use Rattle.grid_units.specs.declared.lengths.Unit.TheVariants.{Inch, Millimetre}
use Rattle.grid_units.specs.declared.zero_filling.Zeros.{Zeros}
use Rattle.grid_units.specs.declared.zero_filling.Zeros.TheVariants.{Leading, Trailing, Full}
use Rattle.grid_units.specs.Numbers.{max_units}
use Rattle.grid_units.specs.Spellings.{spelling_with_point}
use Rattle.drill_lines.specs.declared.command.Coordinates.{Coordinates}
use Rattle.drill_lines.specs.declared.command.Part.{Part}
use Rattle.drill_lines.specs.declared.command.Part.TheVariants as part
use Rattle.drill_lines.specs.declared.command.DrillCommand.{DrillCommand}
use Rattle.drill_lines.specs.declared.command.DrillCommand.TheVariants.{Comment, Start, UnitLine, Tool, HeaderEnd, UnitCode, Pick, Hit, Slot, Finish}
use Rattle.drill_lines.specs.Formats.{Digits, AreDigitCounts}
use Rattle.drill_lines.specs.Lines.{without_end_blanks}
use Rattle.grid_units.specs.Limits.{line_limit}
use Rattle.grid_units.specs.Ascii as ascii

-- ---- lines

-- `INCH` or `METRIC`, the word of a unit line
abbrev pub unit_word : Units → List ℕ
unit_word Inch = codes "INCH"
unit_word Millimetre = codes "METRIC"

-- `,LZ` or `,TZ` where leading or trailing zeros are given, else nothing
abbrev pub zeros_text : Option Zeros → List ℕ
zeros_text (Some Leading) = codes ",LZ"
zeros_text (Some Trailing) = codes ",TZ"
zeros_text (Some Full) = []
zeros_text None = []

-- the pattern of a format, if one is given: `,00.0000` for 2:4
abbrev pub pattern_text : Option Digits → List ℕ
pattern_text None = []
pattern_text (Some format) = ascii.comma ∷ (replicate format.whole ascii.digit_zero ++ ascii.point ∷ replicate format.decimals ascii.digit_zero)

-- the code of a unit: `M71` for millimetres, `M72` for inches
abbrev pub unit_code : Units → List ℕ
unit_code Millimetre = codes "M71"
unit_code Inch = codes "M72"

-- a coordinate after its letter, as `X1.0`; nothing where it is left out
abbrev pub coordinate_text : ℕ → Option ℤ → List ℕ
coordinate_text letter None = []
coordinate_text letter (Some v) = letter ∷ spelling_with_point v

-- the coordinates of a point, of those that stand: `X1.0Y-0.5`, `Y1.0`
abbrev pub point_text : Coordinates → List ℕ
point_text p = coordinate_text ascii.upper_x p.x ++ coordinate_text ascii.upper_y p.y

-- the canonical line of a command, without its LF: `METRIC,TZ,000.000`, `T1C0.4`, `X1.0Y-0.5`, `X2.0G85Y1.0`
abbrev pub canonical : DrillCommand → List ℕ
canonical (Comment text) = ascii.semicolon ∷ text
canonical Start = codes "M48"
canonical (UnitLine unit zeros format) = unit_word unit ++ (zeros_text zeros ++ pattern_text format)
canonical (Tool number diameter) = ascii.upper_t ∷ (decimal number ++ ascii.upper_c ∷ spelling_with_point diameter)
canonical HeaderEnd = codes "%"
canonical (UnitCode unit) = unit_code unit
canonical (Pick number) = ascii.upper_t ∷ decimal number
canonical (Hit point) = point_text point
canonical (Slot first second) = point_text first ++ (codes "G85" ++ point_text second)
canonical Finish = codes "M30"

-- ---- commands that a line spells

-- the text of a comment: without LF, with no blank at its end, and shorter than 1,048,576 bytes
abbrev pub is_comment_text : List ℕ → Bool
is_comment_text text = not (list_any (λ b. b == ascii.line_feed) text) && ((length (without_end_blanks text) == length text) && nat_lt (length text) line_limit)

-- zeros that a unit line can give: leading, trailing or none (docs/FORMATS.md, Drill lines)
abbrev pub can_give_zeros : Option Zeros → Bool
can_give_zeros (Some Full) = false
can_give_zeros _ = true

-- the number of a tool that is defined: 1 to 999 (docs/FORMATS.md, Drill lines)
abbrev pub is_tool_number : ℕ → Bool
is_tool_number n = nat_le 1 n && nat_le n 999

-- a point names at least one coordinate (docs/FORMATS.md, Drill lines)
abbrev pub has_coordinate : Coordinates → Bool
has_coordinate p = is_some p.x || is_some p.y

-- some line of this part of a file spells the command: a Tool in the header, a Hit in the body, a Comment up to `M30`
abbrev pub is_sayable : Part → DrillCommand → Bool
is_sayable part.Before Start = true
is_sayable part.Before (Comment text) = is_comment_text text
is_sayable part.Header (Comment text) = is_comment_text text
is_sayable part.Header (UnitLine unit zeros format) = can_give_zeros zeros
is_sayable part.Header (Tool number diameter) = is_tool_number number
is_sayable part.Header HeaderEnd = true
is_sayable part.Header (UnitCode unit) = true
is_sayable part.Body (Comment text) = is_comment_text text
is_sayable part.Body (UnitCode unit) = true
is_sayable part.Body (Pick number) = nat_le number 999
is_sayable part.Body (Hit point) = has_coordinate point
is_sayable part.Body (Slot first second) = has_coordinate first && has_coordinate second
is_sayable part.Body Finish = true
is_sayable _ _ = false

-- ---- what the types of a command's fields say

-- a decimal in units of 10^-8: at most 999,999.99999999 from zero (docs/FORMATS.md, The three kinds of number)
abbrev pub IsDec : ℤ → Type 0
IsDec v = unsigned_abs v ≤ max_units

-- a decimal, or a coordinate that is left out (docs/FORMATS.md, The three kinds of number)
abbrev pub IsOptionalDec : Option ℤ → Type 0
IsOptionalDec None = Unit {0}
IsOptionalDec (Some v) = IsDec v

-- each coordinate of a point is a decimal or left out (docs/FORMATS.md, The three kinds of number)
abbrev pub IsPoint : Coordinates → Type 0
IsPoint p = IsOptionalDec p.x × IsOptionalDec p.y

-- each number of a command lies in the range of its type, as the digits of a pattern from 1 to 6
abbrev pub IsInRange : DrillCommand → Type 0
IsInRange (UnitLine unit zeros (Some format)) = AreDigitCounts format.whole format.decimals
IsInRange (Tool number diameter) = IsDec diameter
IsInRange (Hit point) = IsPoint point
IsInRange (Slot first second) = IsPoint first × IsPoint second
IsInRange _ = Unit {0}
