-- The state, which is what a reader keeps of the commands that it has met, and what its steps do.
use Rattle.std.specs.Prelude.{◌≡◌, ◌⊎◌, ℕ, ℤ, Bool, true, false, ◌||◌, ◌&&◌, List, [], ◌∷◌, ◌++◌, length, ◌≤ℤ◌, ◌/◌, nat_le, pos, unsigned_abs, Result, Ok, Err, Option, None, Some, is_some, unwrap_or, nat_eq, if◌then◌else◌}
use Rattle.std.specs.Option.{option_or, option_and_then, option_map, option_to_list}
use Rattle.std.specs.List.{list_any}
use Rattle.indexmap.specs.IndexMap.{get}
use Rattle.grid_units.specs.declared.fault.Reason.{Reason}
use Rattle.grid_units.specs.declared.fault.Reason.TheVariants.{TooFar, TooManyHoles, NoPlating, PlatingConflict, Redefined}
use Rattle.grid_units.specs.Results.{◌>>=◌}
use Rattle.grid_units.specs.Lists.{last_set}
use Rattle.grid_units.specs.Points.{GridPoint, max_coordinate}
use Rattle.grid_units.specs.Holes.{GridHole}
use Rattle.grid_units.specs.declared.item_fail.ItemFail.{ItemFail}
use Rattle.grid_units.specs.declared.item_fail.ItemFail.TheVariants as stops
use Rattle.grid_units.specs.declared.lengths.Unit.{Unit as Units}
use Rattle.grid_units.specs.declared.zero_filling.Zeros.{Zeros}
use Rattle.drill_lines.specs.declared.command.Coordinates.{Coordinates}
use Rattle.drill_lines.specs.declared.command.Settings.{Settings}
use Rattle.drill_lines.specs.declared.command.DrillCommand.{DrillCommand}
use Rattle.drill_lines.specs.declared.command.DrillCommand.TheVariants as command
use Rattle.grid_units.specs.Numbers.{is_too_far}
use Rattle.drill_lines.specs.Formats.{Digits}
use Rattle.drill_lines.specs.declared.plating.Plating.{Plating}
use Rattle.drill_lines.specs.declared.plating.Plating.TheVariants.{Unsaid}
use Rattle.drill_text.specs.declared.platings.PlatingKind.{PlatingKind}
use Rattle.drill_text.specs.declared.platings.PlatingKind.TheVariants as kinds
use Rattle.drill_text.specs.declared.platings.PlatingWords.{PlatingWords}
use Rattle.drill_text.specs.declared.platings.Tool.{Tool}
use Rattle.drill_text.specs.declared.state.DrillState.{DrillState}
use Rattle.drill_text.specs.Lookback.{StateView, state_after, part_set, unit_set, zeros_set, format_set, ends_header, diameter_set, tool_set, tools_at, tools_of, points_in, x_set, y_set}
use Rattle.drill_text.specs.Holes.{DrillPath, coordinate_in, unit_or, hole_of, holes_of}
use Rattle.drill_text.specs.Outcome.{diameter_of_tool, diameters, kept_platings}
use Rattle.drill_text.specs.Plating.{calls_plated, calls_unplated, is_plated, is_unsaid, plating_of_tool, plating_set, redefines_plating, rule_in, said_after, tool_made}
use Rattle.drill_text.specs.Profiles.{Kind}
use Rattle.drill_text.specs.Repeats.{steps_on}
use Rattle.drill_text.specs.Rules.{defines_alike, drills, first_broken_in, redefines_tool, max_holes, width_with}

-- what stands before the next command, by the fields of the state
abbrev pub state_of : DrillState → StateView
state_of state = record {
  settings = state.settings;
  header_ended = state.header_ended;
  diameter = λ number. option_map diameter_of_tool (get nat_eq state.tools number);
  tool = state.tool;
  x = state.x;
  y = state.y;
}

-- what a tool is, by what was said of it
abbrev pub plating_in : Tool → Plating
plating_in tool = tool.plating

-- what the holes of the picked tool are
abbrev pub picked_plating : DrillState → Plating
picked_plating state = unwrap_or (option_map plating_in state.picked) Unsaid

-- the comments of these commands, in a file of this kind, say just this
pub record AreWordsAfter (words : PlatingWords) (kind : Kind) (before : List DrillCommand) : Type 0 where
  pub profile_is : words.profile ≡ kind.profile
  pub kind_is : words.kind ≡ kind.plating
  pub said : words.said ≡ said_after before
  pub calls_plated : words.calls_plated ≡ list_any calls_plated before
  pub calls_unplated : words.calls_unplated ≡ list_any calls_unplated before

-- the state is that after just these commands of a file of this kind: what stands, the holes, the tools and what is said are theirs
pub record IsStateAfter (state : DrillState) (kind : Kind) (before : List DrillCommand) : Type 0 where
  pub state_after : state_of state ≡ state_after before
  pub holes : state.holes.items ≡ holes_of before
  pub tools : diameters state.tools.entries ≡ tools_of before
  pub words : AreWordsAfter state.words kind before
  pub platings : (number : ℕ) → option_map plating_in (get nat_eq state.tools number) ≡ plating_of_tool before number
  pub plated : state.plated.items ≡ kept_platings kind.plating before

-- the value given last; once the header has ended, a new one is not taken
abbrev pub given_last : {A : Type 0} → Bool → Option A → Option A → Option A
given_last header_ended None before = before
given_last header_ended (Some x) before = if header_ended then before else Some x

-- the settings after one more command, once the header has ended or before
abbrev pub settings_with : DrillCommand → Bool → Settings → Settings
settings_with c header_ended s = record {
  part = unwrap_or (part_set c) s.part;
  unit = given_last header_ended (unit_set c) s.unit;
  zeros = given_last header_ended (zeros_set c) s.zeros;
  format = given_last header_ended (format_set c) s.format;
}

-- what stands after one more command
abbrev pub after : DrillCommand → StateView → StateView
after c s = record {
  settings = settings_with c s.header_ended s.settings;
  header_ended = ends_header c || s.header_ended;
  diameter = λ number. option_or (diameter_set number c) (s.diameter number);
  tool = option_or (tool_set c) s.tool;
  x = option_or (last_set x_set (points_in c)) s.x;
  y = option_or (last_set y_set (points_in c)) s.y;
}

-- the point that names these coordinates; where it leaves one out, it has that of the last point (x, y)
abbrev pub resolved_point : Units → Option ℤ → Option ℤ → Coordinates → GridPoint
resolved_point unit x y point = record { x = coordinate_in unit (option_or point.x x); y = coordinate_in unit (option_or point.y y) }

-- what a slot drills from a first point to a second, by what stands
abbrev pub path_between : StateView → Coordinates → Coordinates → DrillPath
path_between s first second = record {
  from = resolved_point (unit_or s.settings.unit) s.x s.y first;
  to = resolved_point (unit_or s.settings.unit) (option_or first.x s.x) (option_or first.y s.y) second;
  diameter = coordinate_in (unit_or s.settings.unit) (option_and_then s.diameter s.tool);
}

-- a point that names no coordinate
abbrev pub no_point : Coordinates
no_point = record { x = None; y = None }

-- the point one step on from the last one, with both of its coordinates
abbrev pub next_point : StateView → Coordinates → Coordinates
next_point s step = record { x = Some (steps_on 1 s.x step.x); y = Some (steps_on 1 s.y step.y) }

-- what a command drills, by what stands: a hit from its point to itself
abbrev pub drill_path : StateView → DrillCommand → Option DrillPath
drill_path s (command.Hit point) = Some (path_between s point no_point)
drill_path s (command.Slot first second) = Some (path_between s first second)
drill_path s _ = None

-- the point at these coordinates, unless one of them is above 10 m: TooFar
abbrev pub point_in : Units → Option ℤ → Option ℤ → Result GridPoint Reason
point_in unit x y = if is_too_far (coordinate_in unit x) || is_too_far (coordinate_in unit y) then Err TooFar else Ok (record { x = coordinate_in unit x; y = coordinate_in unit y })

-- a diameter that a hole can have: 2 pm to 10 m, so that half of it is at least 1 pm
abbrev pub IsWidth : ℤ → Type 0
IsWidth width = (pos 2 ≤ℤ width) × (width ≤ℤ pos max_coordinate)

-- the hole between two points, unless there are 1,048,576 already: TooManyHoles
abbrev pub hole_between : ℕ → ℤ → GridPoint → GridPoint → Result GridHole Reason
hole_between count width from to = if nat_le max_holes count then Err TooManyHoles else Ok (record { from = from; to = to; radius = unsigned_abs width / 2 })

-- the hole from one point to another, or the first rule that it breaks: NoTool, BadSize, TooFar, TooManyHoles
abbrev pub hole_in : StateView → ℕ → Coordinates → Coordinates → Result GridHole Reason
hole_in s count first second = width_with (unit_or s.settings.unit) s.tool (option_and_then s.diameter s.tool) >>= λ width.
    (point_in (unit_or s.settings.unit) (option_or first.x s.x) (option_or first.y s.y) >>= λ from.
    (point_in (unit_or s.settings.unit) (option_or second.x (option_or first.x s.x)) (option_or second.y (option_or first.y s.y)) >>= λ to.
    hole_between count width from to))

-- what stands after a line that gives this unit, these zeros and this format
abbrev pub after_format : Option Units → Option Zeros → Option Digits → StateView → StateView
after_format unit zeros format s = record {
  settings = record {
    part = s.settings.part;
    unit = given_last s.header_ended unit s.settings.unit;
    zeros = given_last s.header_ended zeros s.settings.zeros;
    format = given_last s.header_ended format s.settings.format;
  };
  header_ended = s.header_ended;
  diameter = s.diameter;
  tool = s.tool;
  x = s.x;
  y = s.y;
}

-- what stands once this is the last point; a coordinate that it leaves out stays
abbrev pub at_last_point : Coordinates → StateView → StateView
at_last_point point s = record { settings = s.settings; header_ended = s.header_ended; diameter = s.diameter; tool = s.tool; x = option_or point.x s.x; y = option_or point.y s.y }

-- what the comments say after one more command
abbrev pub heard : DrillCommand → PlatingWords → PlatingWords
heard c words = record {
  profile = words.profile;
  kind = words.kind;
  said = unwrap_or (plating_set c) words.said;
  calls_plated = calls_plated c || words.calls_plated;
  calls_unplated = calls_unplated c || words.calls_unplated;
}

-- the mark of a hole with this plating, as a list of one; none but in mixed files
abbrev pub mark_of : PlatingKind → Plating → List Bool
mark_of kinds.Mixed plating = is_plated plating ∷ []
mark_of _ plating = []

-- the rule that files of a kind have beside the others, if a command breaks it: once the header has ended, or before, with this picked tool, and if it plates a tool otherwise
abbrev pub own_broken : PlatingKind → Bool → Plating → Bool → DrillCommand → Option Reason
own_broken kinds.Stated header_ended picked otherwise c = None
own_broken kinds.Unplated header_ended picked otherwise c = if calls_plated c then Some PlatingConflict else None
own_broken kinds.Mixed header_ended picked otherwise c =
    if otherwise then Some Redefined else if (drills c && is_unsaid picked) || (is_some (plating_set c) && header_ended) then Some NoPlating else None

-- a command defines a tool again, and what is said of it now is not what it was
abbrev pub plates_otherwise : DrillState → DrillCommand → Bool
plates_otherwise state c = redefines_plating state.words.said (λ number. option_map plating_in (get nat_eq state.tools number)) c

-- the first rule of its profile that a command breaks, by the fields of the state
abbrev pub broken_in : DrillState → DrillCommand → Option Reason
broken_in state c = first_broken_in state.words.profile (state_of state) (length state.holes.items) (drill_path (state_of state) c) c

-- the rule of its kind of file that a command breaks, by the same
abbrev pub own_in : DrillState → DrillCommand → Option Reason
own_in state c = own_broken state.words.kind state.header_ended (picked_plating state) (plates_otherwise state c) c

-- the rule that files of a kind have of a hole with this plating, if it breaks that
abbrev pub hole_rule : PlatingKind → Plating → Option Reason
hole_rule kinds.Mixed plating = if is_unsaid plating then Some NoPlating else None
hole_rule _ plating = None

-- the new state is the old one after one more command
pub record Applies (old : DrillState) (c : DrillCommand) (new : DrillState) : Type 0 where
  pub state_after : state_of new ≡ after c (state_of old)
  pub holes : new.holes.items ≡ old.holes.items ++ option_to_list (option_map hole_of (drill_path (state_of old) c))
  pub tools : (redefines_tool (state_of old) c ≡ true → defines_alike (state_of old) c ≡ true)
      → diameters new.tools.entries ≡ diameters old.tools.entries ++ tools_at (state_of old).diameter c
  pub words : new.words ≡ heard c old.words
  pub platings : (number : ℕ) → option_map plating_in (get nat_eq new.tools number) ≡ option_or (tool_made number old.words.said c) (option_map plating_in (get nat_eq old.tools number))
  pub plated : new.plated.items ≡ old.plated.items ++ (if drills c then mark_of old.words.kind (picked_plating old) else [])

-- A hole was marked, or it is neither plated nor unplated, or memory ran out.
abbrev pub MarksOrRefuses : DrillState → DrillState → Result (Unit {0}) ItemFail → Type 0
MarksOrRefuses old new (Ok _) = (is_unsaid (picked_plating old) ≡ false) × (new.plated.items ≡ old.plated.items ++ is_plated (picked_plating old) ∷ [])
MarksOrRefuses old new (Err (stops.Refused broken)) = (is_unsaid (picked_plating old) ≡ true) × (broken ≡ NoPlating)
MarksOrRefuses old new (Err stops.Memory) = Unit {0}

-- A hole was added, or it breaks just this rule of mixed files, or memory ran out.
abbrev pub AddsOrRefuses : DrillState → GridHole → DrillState → Result (Unit {0}) ItemFail → Type 0
AddsOrRefuses old hole new (Ok _) = (hole_rule old.words.kind (picked_plating old) ≡ None)
    × (new.holes.items ≡ old.holes.items ++ hole ∷ [])
    × (new.plated.items ≡ old.plated.items ++ mark_of old.words.kind (picked_plating old))
AddsOrRefuses old hole new (Err (stops.Refused broken)) = hole_rule old.words.kind (picked_plating old) ≡ Some broken
AddsOrRefuses old hole new (Err stops.Memory) = Unit {0}

-- A hole was drilled from one point to another, or it breaks just this rule, or memory ran out.
abbrev pub DrillsOrRefuses : DrillState → Coordinates → Coordinates → DrillState → Result (Unit {0}) ItemFail → Type 0
DrillsOrRefuses old first second new (Ok _) = (hole : GridHole) × (hole_in (state_of old) (length old.holes.items) first second ≡ Ok hole)
    × (hole_rule old.words.kind (picked_plating old) ≡ None)
    × (state_of new ≡ at_last_point second (at_last_point first (state_of old)))
    × (new.holes.items ≡ old.holes.items ++ hole ∷ [])
    × (new.plated.items ≡ old.plated.items ++ mark_of old.words.kind (picked_plating old))
    × (new.tools ≡ old.tools)
    × (new.words ≡ old.words)
DrillsOrRefuses old first second new (Err (stops.Refused broken)) =
    (hole_in (state_of old) (length old.holes.items) first second ≡ Err broken)
    ⊎ ((hole : GridHole) × (hole_in (state_of old) (length old.holes.items) first second ≡ Ok hole) × (hole_rule old.words.kind (picked_plating old) ≡ Some broken))
DrillsOrRefuses old first second new (Err stops.Memory) = Unit {0}

-- The command breaks no rule and was taken in, or it breaks just this one, or memory ran out.
abbrev pub AppliesOrRefuses : Kind → List DrillCommand → DrillCommand → DrillState → Result (Unit {0}) ItemFail → Type 0
AppliesOrRefuses kind before c new (Ok _) = (rule_in kind.profile kind.plating before c ≡ None) × IsStateAfter new kind (before ++ c ∷ [])
AppliesOrRefuses kind before c new (Err (stops.Refused broken)) = rule_in kind.profile kind.plating before c ≡ Some broken
AppliesOrRefuses kind before c new (Err stops.Memory) = Unit {0}

-- so it is after whatever commands the old state is that
abbrev pub JudgesNext : DrillState → DrillCommand → DrillState → Result (Unit {0}) ItemFail → Type 0
JudgesNext old c new result = (kind : Kind) (before : List DrillCommand) → IsStateAfter old kind before → AppliesOrRefuses kind before c new result
