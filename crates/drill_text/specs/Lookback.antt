-- What the commands before a line say; each definition looks back over them (docs/FORMATS.md, Drill lines of the four parts; Drill coordinates).
use Rattle.std.specs.Prelude.{ℕ, ℤ, Bool, true, false, ◌==◌, List, [], ◌∷◌, Option, None, Some, is_some, unwrap_or, if◌then◌else◌}
use Rattle.std.specs.List.{list_any, flat_map}
use Rattle.grid_units.specs.Lists.{last_set, with_prefixes}
use Rattle.grid_units.specs.declared.lengths.Unit.{Unit as Units}
use Rattle.grid_units.specs.declared.zero_filling.Zeros.{Zeros}
use Rattle.drill_lines.specs.declared.command.Part.{Part}
use Rattle.drill_lines.specs.declared.command.Part.TheVariants as part
use Rattle.drill_lines.specs.declared.command.Coordinates.{Coordinates}
use Rattle.drill_lines.specs.declared.command.Settings.{Settings}
use Rattle.drill_lines.specs.declared.command.DrillCommand.{DrillCommand}
use Rattle.drill_lines.specs.declared.command.DrillCommand.TheVariants as command
use Rattle.drill_lines.specs.Formats.{Digits}
use Rattle.drill_lines.specs.Header.{file_format}

-- ---- the part of the file

-- the part of the file that a command begins: Start the header, HeaderEnd the body, Finish the part after
abbrev pub part_set : DrillCommand → Option Part
part_set command.Start = Some part.Header
part_set command.HeaderEnd = Some part.Body
part_set command.Finish = Some part.After
part_set _ = None

-- the part of the file after these commands, by the last of them that begins one
abbrev pub part_after : List DrillCommand → Part
part_after before = unwrap_or (last_set part_set before) part.Before

-- ---- what the commands up to the end of the header give as a whole

-- HeaderEnd, which `%` and `M95` spell
abbrev pub ends_header : DrillCommand → Bool
ends_header command.HeaderEnd = true
ends_header _ = false

-- the commands before the first HeaderEnd, all of them where there is none
abbrev pub header : List DrillCommand → List DrillCommand
header [] = []
header (c ∷ cs) = if ends_header c then [] else c ∷ header cs

-- the unit that a command gives, as `METRIC` and `M71` do
abbrev pub unit_set : DrillCommand → Option Units
unit_set (command.UnitLine unit _ _) = Some unit
unit_set (command.UnitCode unit) = Some unit
unit_set _ = None

-- the zeros that a command gives, as `METRIC,TZ` does
abbrev pub zeros_set : DrillCommand → Option Zeros
zeros_set (command.UnitLine _ zeros _) = zeros
zeros_set _ = None

-- the format that a command gives, as `METRIC,000.000` and `;FILE_FORMAT=3:3` do
abbrev pub format_set : DrillCommand → Option Digits
format_set (command.Comment text) = file_format text
format_set (command.UnitLine _ _ format) = format
format_set _ = None

-- By what the next line is read: its part of the file, and what was given last before the first HeaderEnd. Later lines give nothing.
abbrev pub settings_after : List DrillCommand → Settings
settings_after before = record {
  part = part_after before;
  unit = last_set unit_set (header before);
  zeros = last_set zeros_set (header before);
  format = last_set format_set (header before);
}

-- ---- tools and points

-- the diameter that a command gives this tool, in units of 10^-8
abbrev pub diameter_set : ℕ → DrillCommand → Option ℤ
diameter_set number (command.Tool other diameter) = if other == number then Some diameter else None
diameter_set number _ = None

-- the tool that a command picks: 1 of `T1` in the body, 0 of `T0`
abbrev pub tool_set : DrillCommand → Option ℕ
tool_set (command.Pick number) = Some number
tool_set _ = None

-- the points that a command names, in order: one of a hit, two of a slot
abbrev pub points_in : DrillCommand → List Coordinates
points_in (command.Hit point) = point ∷ []
points_in (command.Slot first second) = first ∷ second ∷ []
points_in _ = []

-- the points of a list of commands, in order: one for a hit and two for a slot
abbrev pub points_of : List DrillCommand → List Coordinates
points_of commands = flat_map points_in commands

-- the X that a point names, if it does not leave it out
abbrev pub x_set : Coordinates → Option ℤ
x_set point = point.x

-- the Y that a point names, if it does not leave it out
abbrev pub y_set : Coordinates → Option ℤ
y_set point = point.y

-- ---- all that stands when a line comes

-- what stands before a line: the settings, whether the header has ended, the tools, the tool picked last, and the last X and Y
pub record StateView : Type 0 where
  pub settings : Settings
  pub header_ended : Bool
  pub diameter : ℕ → Option ℤ
  pub tool : Option ℕ
  pub x : Option ℤ
  pub y : Option ℤ

-- what stands after these commands, each field by looking back
abbrev pub state_after : List DrillCommand → StateView
state_after before = record {
  settings = settings_after before;
  header_ended = list_any ends_header before;
  diameter = λ number. last_set (diameter_set number) before;
  tool = last_set tool_set before;
  x = last_set x_set (points_of before);
  y = last_set y_set (points_of before);
}

-- the tool that a command defines for the first time, by the diameters given before, as a list of one or none: (1, 40000000) of `T1C0.4`
abbrev pub tools_at : (ℕ → Option ℤ) → DrillCommand → List (ℕ × ℤ)
tools_at given (command.Tool number diameter) = if is_some (given number) then [] else (number, diameter) ∷ []
tools_at given _ = []

-- the tools with their diameters, in order of their first definitions
abbrev pub tools_of : List DrillCommand → List (ℕ × ℤ)
tools_of commands = flat_map (λ p. tools_at (state_after p.0).diameter p.1) (with_prefixes commands)
