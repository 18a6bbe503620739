-- What a line spells in a profile, by the lines before it: in the wide profile four lines, as `G00X0.0Y0.0`, `M15`, `G01X5.0` and `M16`, spell one slot
-- (docs/FORMATS.md, The wide profile). All lines stand without the blanks at their ends.
use Rattle.std.specs.Prelude.{ℕ, Bool, true, false, ◌&&◌, ◌||◌, ◌==◌, List, [], ◌∷◌, length, if◌then◌else◌, Option, Some, None, unwrap_or, is_some, option_and_then, Ok, Err, codes}
use Rattle.std.specs.Option.{option_map}
use Rattle.std.specs.Str.{bytes_eq}
use Rattle.grid_units.specs.declared.fault.Reason.TheVariants.{BadLine, Routed}
use Rattle.grid_units.specs.Results.{◌>>=◌}
use Rattle.grid_units.specs.Rows.{RowOf, strip_prefix, literal_row}
use Rattle.grid_units.specs.Lists.{last_set}
use Rattle.drill_lines.specs.declared.command.Coordinates.{Coordinates}
use Rattle.drill_lines.specs.declared.command.Part.{Part}
use Rattle.drill_lines.specs.declared.command.Part.TheVariants as part
use Rattle.drill_lines.specs.declared.command.Settings.{Settings}
use Rattle.drill_lines.specs.declared.command.DrillCommand.{DrillCommand}
use Rattle.drill_lines.specs.declared.command.DrillCommand.TheVariants.{Hit, Slot, Finish}
use Rattle.drill_lines.specs.declared.route.Machine.{Machine}
use Rattle.drill_lines.specs.declared.route.Machine.TheVariants as machine
use Rattle.grid_units.specs.declared.profile.Profile.{Profile}
use Rattle.grid_units.specs.declared.profile.Profile.TheVariants.{Strict, Wide}
use Rattle.drill_lines.specs.HoleLines.{point_line}
use Rattle.drill_lines.specs.Meaning.{Meaning, Row, meaning}

-- ---- the four lines of a route

-- the first begins so: the machine goes to a point above the board
abbrev pub starts : List ℕ → Bool
starts line = is_some (strip_prefix (codes "G00") line)

-- the second: the machine lowers its tool
abbrev pub lowers : List ℕ → Bool
lowers line = bytes_eq line (codes "M15")

-- the third begins so: the machine cuts in a straight line to a point
abbrev pub cuts : List ℕ → Bool
cuts line = is_some (strip_prefix (codes "G01") line)

-- the fourth: the machine raises its tool, with its clamp or without it
abbrev pub raises : List ℕ → Bool
raises line = bytes_eq line (codes "M16") || bytes_eq line (codes "M17")

-- the row of lines that are this word and a point: `G00X1.0` is `G00` and the point whose X is 1
abbrev pub routed_point : List ℕ → Settings → List ℕ → RowOf Coordinates
routed_point word settings line = option_and_then (point_line settings) (strip_prefix word line)

-- such a line spells nothing yet, or is refused for the first reason in the reading order
abbrev pub route_row : List ℕ → Settings → List ℕ → Row
route_row word settings line = option_map (λ read. read >>= λ point. Ok None) (routed_point word settings line)

-- the point of such a line, if it has one
abbrev pub point_read : RowOf Coordinates → Option Coordinates
point_read (Some (Ok point)) = Some point
point_read _ = None

-- ---- looking back

-- the last of these lines, or an empty one where there is none
abbrev pub last_line : List (List ℕ) → List ℕ
last_line earlier = unwrap_or (last_set Some earlier) []

-- the point that was named last after this word
abbrev pub last_point : List ℕ → Settings → List (List ℕ) → Option Coordinates
last_point word settings earlier = last_set (λ line. point_read (routed_point word settings line)) earlier

-- after the fourth line of a route the machine still routes, after `G05` it drills again, and after `M00` it has stopped
abbrev pub machine_set : List ℕ → Option Machine
machine_set line =
    if raises line then Some machine.Routing
    else if bytes_eq line (codes "G05") then Some machine.Drilling else if bytes_eq line (codes "M00") then Some machine.Stopped else None

-- what the machine does after these lines: what the last of them says that says it, and it drills where none does
abbrev pub machine_after : List (List ℕ) → Machine
machine_after earlier = unwrap_or (last_set machine_set earlier) machine.Drilling

-- ---- a line after these

-- the slot from one point to another
abbrev pub slot_between : Option Coordinates → Option Coordinates → Meaning
slot_between (Some from) (Some to) = Ok (Some (Slot from to))
slot_between _ _ = Err Routed

-- after the third only `M16` or `M17`, which spells the slot from the point of the last `G00` to that of the last `G01`
abbrev pub fourth_line : List (List ℕ) → Settings → List ℕ → Meaning
fourth_line earlier settings line =
    if raises line then slot_between (last_point (codes "G00") settings earlier) (last_point (codes "G01") settings earlier)
    else Err Routed

-- lines that the strict profile refuses: `M30` before `M48`, and in the body the first line of a route
abbrev pub part_row : Part → Settings → List ℕ → Row
part_row part.Before settings line = literal_row ((codes "M30", Ok (Some Finish)) ∷ []) line
part_row part.Body settings line = route_row (codes "G00") settings line
part_row _ settings line = None

-- and those of older texts that say nothing: in the header `R,H`, there and in the body `G93X0Y0`, in the body `M00`, and after the end a comment
abbrev pub says_nothing : Part → List ℕ → Bool
says_nothing part.Before line = false
says_nothing part.Header line = bytes_eq line (codes "R,H") || bytes_eq line (codes "G93X0Y0")
says_nothing part.Body line = bytes_eq line (codes "M00") || bytes_eq line (codes "G93X0Y0")
says_nothing part.After line = is_some (strip_prefix (codes ";") line)

-- a line may stand where the machine does this: once it has stopped, an empty one, `M30` or a comment
abbrev pub may_stand : Machine → List ℕ → Bool
may_stand machine.Stopped line = (length line == 0) || (bytes_eq line (codes "M30") || is_some (strip_prefix (codes ";") line))
may_stand _ line = true

-- lines that the wide profile alone reads, and those that it refuses since the machine has stopped
abbrev pub wide_row : Machine → Settings → List ℕ → Row
wide_row now settings line =
    if may_stand now line then (if says_nothing settings.part line then Some (Ok None) else part_row settings.part settings line) else Some (Err BadLine)

-- a hit, or a slot in one line
abbrev pub is_hole : Option DrillCommand → Bool
is_hole (Some (Hit point)) = true
is_hole (Some (Slot from to)) = true
is_hole _ = false

-- the machine routes
abbrev pub is_routing : Machine → Bool
is_routing machine.Routing = true
is_routing _ = false

-- what a line spells, but for hits and slots while the machine routes: they are Routed
abbrev pub unless_routing : Machine → Option DrillCommand → Meaning
unless_routing now spelled = if is_routing now && is_hole spelled then Err Routed else Ok spelled

-- where no line of a route is due, each line is read as in the strict profile but for these
abbrev pub other_line : Machine → Settings → List ℕ → Meaning
other_line now settings line = unwrap_or (wide_row now settings line) (meaning settings line >>= unless_routing now)

-- what a line spells in the wide profile after these lines: after the first line of a route only `M15` may stand, after the second only `G01` and a point
unfoldable pub wide_meaning : List (List ℕ) → Settings → List ℕ → Meaning
wide_meaning earlier settings line =
    if starts (last_line earlier) then (if lowers line then Ok None else Err Routed)
    else if lowers (last_line earlier) then unwrap_or (route_row (codes "G01") settings line) (Err Routed)
    else if cuts (last_line earlier) then fourth_line earlier settings line
    else other_line (machine_after earlier) settings line

-- what a line spells in a profile after these lines; in the strict one it is read by itself
abbrev pub meaning_in : Profile → List (List ℕ) → Settings → List ℕ → Meaning
meaning_in Strict earlier settings line = meaning settings line
meaning_in Wide earlier settings line = wide_meaning earlier settings line
