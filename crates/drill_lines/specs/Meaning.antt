-- What a line spells: the first row that fits, of the rows of its part of the file (docs/FORMATS.md, Drill lines).
use Rattle.std.specs.Prelude.{ℕ, Bool, false, ◌==◌, List, [], ◌∷◌, if◌then◌else◌, Option, Some, None, Result, Ok, Err, codes}
use Rattle.std.specs.Option.{option_map}
use Rattle.grid_units.specs.declared.fault.Reason.{Reason}
use Rattle.grid_units.specs.declared.fault.Reason.TheVariants.{AfterEnd, OldFormat, Incremental, Routed, Repeat, BadLine}
use Rattle.grid_units.specs.Results.{◌>>=◌}
use Rattle.grid_units.specs.Rows.{RowOf, first_match_or, strip_prefix, literal_row, prefix_row}
use Rattle.grid_units.specs.declared.lengths.Unit.TheVariants.{Inch, Millimetre}
use Rattle.drill_lines.specs.declared.command.Part.{Part}
use Rattle.drill_lines.specs.declared.command.Part.TheVariants as part
use Rattle.drill_lines.specs.declared.command.Settings.{Settings}
use Rattle.drill_lines.specs.declared.command.DrillCommand.{DrillCommand}
use Rattle.drill_lines.specs.declared.command.DrillCommand.TheVariants.{Comment, Start, HeaderEnd, UnitCode, Finish}
use Rattle.drill_lines.specs.Header.{unit_line}
use Rattle.drill_lines.specs.Tools.{tool_line, pick_line}
use Rattle.drill_lines.specs.HoleLines.{hole_line}
use Rattle.grid_units.specs.Ascii as ascii

-- what a line spells: one command, nothing, or the reason for its refusal
abbrev pub Meaning : Type 0
Meaning = Result (Option DrillCommand) Reason

-- a row of the table of drill lines: what a line that fits it spells, and `None` for a line that does not fit
abbrev pub Row : Type 0
Row = RowOf (Option DrillCommand)

-- a line that spells one command, or is refused
abbrev pub one_command : Result DrillCommand Reason → Meaning
one_command read = read >>= λ command. Ok (Some command)

-- ---- the part before

-- the lines before the header, comments apart: `%` spells nothing, and `M48` begins the header
unfoldable pub lines_before : List (List ℕ × Meaning)
lines_before = (codes "%", Ok None) ∷ (codes "M48", Ok (Some Start)) ∷ []

-- ---- the header and the body

-- the lines that are read alike in the header and in the body, as `M71` for millimetres, `G90`, `FMAT,1`
unfoldable pub common_lines : List (List ℕ × Meaning)
common_lines =
    (codes "M71", Ok (Some (UnitCode Millimetre))) ∷ (codes "M72", Ok (Some (UnitCode Inch)))
    ∷ (codes "G90", Ok None) ∷ (codes "G05", Ok None) ∷ (codes "FMAT,2", Ok None) ∷ (codes "VER,1", Ok None) ∷ (codes "ICI,OFF", Ok None)
    ∷ (codes "FMAT,1", Err OldFormat)
    ∷ (codes "G91", Err Incremental) ∷ (codes "ICI,ON", Err Incremental)
    ∷ []

-- the rows that the header and the body share: these lines, and those that begin with `G93`, which are refused
abbrev pub common_rows : List ℕ → List Row
common_rows line = literal_row common_lines line ∷ prefix_row ((codes "G93", Err OldFormat) ∷ []) line ∷ []

-- ---- the header

-- the lines that end the header: `%` and `M95`
unfoldable pub header_ends : List (List ℕ × Meaning)
header_ends = (codes "%", Ok (Some HeaderEnd)) ∷ (codes "M95", Ok (Some HeaderEnd)) ∷ []

-- the rows of the header, for lines as `%`, `METRIC,TZ`, `T1C0.4` and `M71`
abbrev pub header_rows : List ℕ → List Row
header_rows line =
    literal_row header_ends line
    ∷ option_map (λ rest. one_command (unit_line Inch rest)) (strip_prefix (codes "INCH") line)
    ∷ option_map (λ rest. one_command (unit_line Millimetre rest)) (strip_prefix (codes "METRIC") line)
    ∷ option_map (λ rest. one_command (tool_line rest)) (strip_prefix (codes "T") line)
    ∷ common_rows line

-- ---- the body

-- a hit or a slot, which begins with `X` or `Y`: `X1.0Y-0.5`, `Y1.0`, `X2.0G85Y1.0`
abbrev pub hole_row : Settings → List ℕ → Row
hole_row settings line = prefix_row ((codes "X", one_command (hole_line settings line)) ∷ (codes "Y", one_command (hole_line settings line)) ∷ []) line

-- how lines of routed paths begin, as `G00`, and those of repeats and patterns, as `R` and `M25`; all are refused
unfoldable pub body_prefixes : List (List ℕ × Meaning)
body_prefixes =
    (codes "G00", Err Routed) ∷ (codes "G01", Err Routed) ∷ (codes "G02", Err Routed) ∷ (codes "G03", Err Routed) ∷ (codes "M15", Err Routed) ∷ (codes "M16", Err Routed)
    ∷ (codes "R", Err Repeat) ∷ (codes "M01", Err Repeat) ∷ (codes "M02", Err Repeat) ∷ (codes "M08", Err Repeat) ∷ (codes "M25", Err Repeat)
    ∷ []

-- the rows of the body, for lines as `X1.0Y-0.5`, `T1`, `M30` and `M72`
abbrev pub body_rows : Settings → List ℕ → List Row
body_rows settings line =
    hole_row settings line
    ∷ option_map (λ rest. one_command (pick_line rest)) (strip_prefix (codes "T") line)
    ∷ literal_row ((codes "M30", Ok (Some Finish)) ∷ []) line
    ∷ prefix_row body_prefixes line
    ∷ common_rows line

-- ---- every part

-- a line in this part of the file; where no row fits it is OldFormat before `M48`, then BadLine. After `M30` it is AfterEnd
unfoldable pub line_in : Part → Settings → List ℕ → Meaning
line_in part.Before settings line = first_match_or OldFormat (literal_row lines_before line ∷ [])
line_in part.Header settings line = first_match_or BadLine (header_rows line)
line_in part.Body settings line = first_match_or BadLine (body_rows settings line)
line_in part.After settings line = Err AfterEnd

-- a line that begins with `;` is a comment in every part but the one after `M30`
abbrev pub begins_comment : Part → ℕ → Bool
begins_comment part.After b = false
begins_comment _ b = b == ascii.semicolon

-- What a line without blanks at its end spells by these settings: in the header `T1C0.4` spells Tool(1, 0.4).
unfoldable pub meaning : Settings → List ℕ → Meaning
meaning settings [] = Ok None
meaning settings (b ∷ bs) =
    if begins_comment settings.part b then Ok (Some (Comment bs))
    else line_in settings.part settings (b ∷ bs)
