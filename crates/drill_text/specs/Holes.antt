-- The holes of a drill file (docs/FORMATS.md, Points and holes). Lengths are whole picometres (pm).
use Rattle.std.specs.Prelude.{◌/◌, ℤ, pos, List, [], ◌∷◌, ◌++◌, Option, None, Some, unwrap_or, unsigned_abs}
use Rattle.std.specs.Option.{option_and_then, option_map, option_to_list}
use Rattle.std.specs.List.{flat_map}
use Rattle.grid_units.specs.Lists.{last_set, with_prefixes}
use Rattle.grid_units.specs.Points.{GridPoint}
use Rattle.grid_units.specs.Holes.{GridHole}
use Rattle.grid_units.specs.declared.lengths.Unit.{Unit as Units}
use Rattle.grid_units.specs.declared.lengths.Unit.TheVariants.{Millimetre}
use Rattle.drill_lines.specs.declared.command.Coordinates.{Coordinates}
use Rattle.drill_lines.specs.declared.command.DrillCommand.{DrillCommand}
use Rattle.drill_lines.specs.declared.command.DrillCommand.TheVariants as command
use Rattle.grid_units.specs.Numbers.{picometres}
use Rattle.drill_text.specs.Lookback.{header, unit_set, diameter_set, tool_set, points_of, x_set, y_set}

-- what a command drills: from one point to another, with a tool of this diameter in pm
pub record DrillPath : Type 0 where
  pub from : GridPoint
  pub to : GridPoint
  pub diameter : ℤ

-- the unit that a header gives, else millimetres; a header without a unit has no legal body
abbrev pub unit_or : Option Units → Units
unit_or unit = unwrap_or unit Millimetre

-- the unit of the file after these commands, as given last before the first HeaderEnd
abbrev pub unit_after : List DrillCommand → Units
unit_after before = unit_or (last_set unit_set (header before))

-- a coordinate in pm, from units of 10^-8 of an inch or a millimetre; 0 where none was named
abbrev pub coordinate_in : Units → Option ℤ → ℤ
coordinate_in unit v = picometres unit 8 (unwrap_or v (pos 0))

-- where the last of these points lies: its X is the one last named at or before it, else 0, and so is its Y
abbrev pub point_at : Units → List Coordinates → GridPoint
point_at unit points = record { x = coordinate_in unit (last_set x_set points); y = coordinate_in unit (last_set y_set points) }

-- the diameter of the tool picked last, in units of 10^-8 of the file's unit
abbrev pub diameter_after : List DrillCommand → Option ℤ
diameter_after before = option_and_then (λ number. last_set (diameter_set number) before) (last_set tool_set before)

-- what a command drills after these commands: a hit at its point, a slot from its first point to its second
abbrev pub path_at : List DrillCommand → DrillCommand → Option DrillPath
path_at before (command.Hit point) = Some (record {
  from = point_at (unit_after before) (points_of before ++ point ∷ []);
  to = point_at (unit_after before) (points_of before ++ point ∷ []);
  diameter = coordinate_in (unit_after before) (diameter_after before);
})
path_at before (command.Slot first second) = Some (record {
  from = point_at (unit_after before) (points_of before ++ first ∷ []);
  to = point_at (unit_after before) (points_of before ++ first ∷ second ∷ []);
  diameter = coordinate_in (unit_after before) (diameter_after before);
})
path_at before _ = None

-- the hole of what is drilled: its radius is half of the diameter
abbrev pub hole_of : DrillPath → GridHole
hole_of d = record { from = d.from; to = d.to; radius = unsigned_abs d.diameter / 2 }

-- the hole that a command drills after these commands, as a list of one or none
abbrev pub holes_at : List DrillCommand → DrillCommand → List GridHole
holes_at before c = option_to_list (option_map hole_of (path_at before c))

-- the holes of a list of commands in order, one for each hit and each slot; equal holes are two
abbrev pub holes_of : List DrillCommand → List GridHole
holes_of commands = flat_map (λ p. holes_at p.0 p.1) (with_prefixes commands)
