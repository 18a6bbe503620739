-- Which bytes a line of a drill file has for each command: the grammar of drill lines (docs/FORMATS.md, Drill lines). `Meaning` answers just these.
use Rattle.std.specs.Prelude.{◌≡◌, ◌≢◌, ◌≤◌, ℕ, ℤ, ◌||◌, ◌==◌, IsTrue, IsFalse, List, [], ◌∷◌, ◌++◌, take, Option, None, Some, is_some, IfSome, Ok, codes}
use Rattle.std.specs.List.{Contains, list_all, list_any}
use Rattle.grid_units.specs.declared.lengths.Unit.{Unit as Units}
use Rattle.grid_units.specs.declared.lengths.Unit.TheVariants.{Inch, Millimetre}
use Rattle.grid_units.specs.declared.zero_filling.Zeros.{Zeros}
use Rattle.grid_units.specs.declared.zero_filling.Zeros.TheVariants.{Leading, Trailing}
use Rattle.grid_units.specs.Numbers.{is_number_char, is_digits, value, parse_decimal}
use Rattle.drill_lines.specs.declared.command.Coordinates.{Coordinates}
use Rattle.drill_lines.specs.declared.command.Part.{Part}
use Rattle.drill_lines.specs.declared.command.Part.TheVariants as part
use Rattle.drill_lines.specs.declared.command.Settings.{Settings}
use Rattle.drill_lines.specs.declared.command.DrillCommand.{DrillCommand}
use Rattle.drill_lines.specs.declared.command.DrillCommand.TheVariants.{Comment, Start, UnitLine, Tool, HeaderEnd, UnitCode, Pick, Hit, Slot, Finish}
use Rattle.drill_lines.specs.Formats.{Digits, AreDigitCounts}
use Rattle.drill_lines.specs.Tools.{is_point}
use Rattle.drill_lines.specs.HoleLines.{coordinate_of}
use Rattle.drill_lines.specs.Writing.{pattern_text}

-- ---- lines that are always written alike

-- the lines of both the header and the body that are always written alike, each with the command that it spells, if any: `M71`, `G90`
abbrev pub shared_lines : List (List ℕ × Option DrillCommand)
shared_lines =
    (codes "M71", Some (UnitCode Millimetre)) ∷ (codes "M72", Some (UnitCode Inch))
    ∷ (codes "G90", None) ∷ (codes "G05", None) ∷ (codes "FMAT,2", None) ∷ (codes "VER,1", None) ∷ (codes "ICI,OFF", None) ∷ []

-- the lines of each part of the file that are always written alike: `M48` before the header, `%` and `M71` in it, `M30` in the body
abbrev pub fixed_lines : Part → List (List ℕ × Option DrillCommand)
fixed_lines part.Before = (codes "M48", Some Start) ∷ (codes "%", None) ∷ []
fixed_lines part.Header = (codes "%", Some HeaderEnd) ∷ (codes "M95", Some HeaderEnd) ∷ shared_lines
fixed_lines part.Body = (codes "M30", Some Finish) ∷ shared_lines
fixed_lines part.After = []

-- ---- lines of the header

-- the words for a unit: `METRIC` is millimetres
abbrev pub unit_words : List (List ℕ × Units)
unit_words = (codes "INCH", Inch) ∷ (codes "METRIC", Millimetre) ∷ []

-- the words for the zeros that coordinates keep, or no word: `,LZ` for the leading ones
abbrev pub zeros_words : List (List ℕ × Option Zeros)
zeros_words = ([], None) ∷ (codes ",LZ", Some Leading) ∷ (codes ",TZ", Some Trailing) ∷ []

-- a unit, then the zeros, then the pattern of a format with 1 to 6 digits on each side of its point: `METRIC,TZ,000.000`, `INCH`
abbrev pub IsUnitLine : List ℕ → Units → Option Zeros → Option Digits → Type 0
IsUnitLine line unit kept format = (word named : List ℕ) × (line ≡ word ++ named ++ pattern_text format)
    × Contains unit_words (word, unit) × Contains zeros_words (named, kept) × IfSome format (λ f. AreDigitCounts f.whole f.decimals)

-- the digits of a tool's number, which is at most 999: `12` and `012` are digits of 12
abbrev pub IsNumber : List ℕ → ℕ → Type 0
IsNumber digits n = IsTrue (is_digits digits) × (n ≡ value digits) × (n ≤ 999)

-- letters of a tool that are not read, each with number characters after it or none: `F200S65`
abbrev pub AreSkipped : List ℕ → Type 0
AreSkipped fields = IsFalse (list_any is_number_char (take 1 fields)) × IsTrue (list_all (λ b. is_number_char b || list_any (λ letter. b == letter) (codes "FSBHZ")) fields)

-- a tool: its number, from 1, and its diameter, a decimal with a point, among letters that are not read: `T1C0.4`, `T01F200C.4S65`
abbrev pub IsToolLine : List ℕ → ℕ → ℤ → Type 0
IsToolLine line n diameter = (digits before run after : List ℕ) × (line ≡ codes "T" ++ digits ++ before ++ codes "C" ++ run ++ after)
    × IsNumber digits n × (1 ≤ n) × AreSkipped before × AreSkipped after × IsTrue (list_any is_point run) × (parse_decimal run ≡ Ok diameter)

-- ---- lines of the body

-- a pick: `T1`, and `T0`, which picks no tool
abbrev pub IsPickLine : List ℕ → ℕ → Type 0
IsPickLine line n = (digits fields : List ℕ) × (line ≡ codes "T" ++ digits ++ fields) × IsNumber digits n × AreSkipped fields

-- a letter and its coordinate, `X1.0`, or nothing where the coordinate is left out
abbrev pub IsCoordinate : Settings → List ℕ → List ℕ → Option ℤ → Type 0
IsCoordinate settings letter text None = text ≡ []
IsCoordinate settings letter text (Some v) = (run : List ℕ) × (text ≡ letter ++ run) × (coordinate_of settings run ≡ Ok v)

-- a point, of which at least one coordinate is named: `X1.0Y-0.5`, `Y1.0`
abbrev pub IsPointText : Settings → List ℕ → Coordinates → Type 0
IsPointText settings text point = (x y : List ℕ) × (text ≡ x ++ y) × IsCoordinate settings (codes "X") x point.x × IsCoordinate settings (codes "Y") y point.y × IsTrue (is_some point.x || is_some point.y)

-- a slot from one point to another: `X2.0G85Y1.0`
abbrev pub IsSlotLine : Settings → List ℕ → Coordinates → Coordinates → Type 0
IsSlotLine settings line from to = (a b : List ℕ) × (line ≡ a ++ codes "G85" ++ b) × IsPointText settings a from × IsPointText settings b to

-- ---- every line

-- A line, without the blanks at its end, spells this command, or nothing: after `M48` the line `T1C0.4` spells Tool(1, 0.4).
abbrev pub IsLine : Settings → List ℕ → Option DrillCommand → Type 0
IsLine settings line (Some (Comment text)) = (settings.part ≢ part.After) × (line ≡ codes ";" ++ text)
IsLine settings line (Some (UnitLine unit kept format)) = (settings.part ≡ part.Header) × IsUnitLine line unit kept format
IsLine settings line (Some (Tool n diameter)) = (settings.part ≡ part.Header) × IsToolLine line n diameter
IsLine settings line (Some (Pick n)) = (settings.part ≡ part.Body) × IsPickLine line n
IsLine settings line (Some (Hit point)) = (settings.part ≡ part.Body) × IsPointText settings line point
IsLine settings line (Some (Slot from to)) = (settings.part ≡ part.Body) × IsSlotLine settings line from to
IsLine settings line spelled = Contains (([], None) ∷ fixed_lines settings.part) (line, spelled)
