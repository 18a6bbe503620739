-- What a drill file holds: commands or their canonical text, holes and tools.
use Rattle.std.specs.Prelude.{ℕ, ℤ, Bool, List, [], map, Result}
use Rattle.std.specs.List.{list_any}
use Rattle.grid_units.specs.Holes.{GridHole}
use Rattle.grid_units.specs.declared.fault.Fault.{Fault}
use Rattle.drill_lines.specs.declared.command.DrillCommand.{DrillCommand}
use Rattle.drill_text.specs.declared.kept.Keep.{Keep}
use Rattle.drill_text.specs.declared.kept.Keep.TheVariants as keep
use Rattle.drill_text.specs.declared.platings.PlatingKind.{PlatingKind}
use Rattle.drill_text.specs.declared.platings.PlatingKind.TheVariants as kind
use Rattle.drill_text.specs.declared.platings.Tool.{Tool}
use Rattle.drill_text.specs.Lookback.{tools_of}
use Rattle.drill_text.specs.Holes.{holes_of}
use Rattle.drill_text.specs.Plating.{calls_plated, calls_unplated, plated_of}
use Rattle.drill_text.specs.Writing.{canonical_lines, text_or_fault}

-- the commands of a drill file, their canonical text, the holes that they drill, of each hole of a mixed file whether it is plated, whether a comment says
-- that holes are plated and whether one says that holes are not, and the tools with their diameters in order of definition
pub record DrillFile : Type 0 where
  pub commands : List DrillCommand
  pub text : Result (List ℕ) Fault
  pub holes : List GridHole
  pub plated : List Bool
  pub calls_plated : Bool
  pub calls_unplated : Bool
  pub tools : List (ℕ × ℤ)

-- the commands, if they are kept
abbrev pub kept_commands : Keep → List DrillCommand → List DrillCommand
kept_commands keep.Commands commands = commands
kept_commands _ commands = []

-- the canonical text of the commands, if it is kept
abbrev pub kept_text : Keep → List DrillCommand → List ℕ
kept_text keep.Text commands = canonical_lines commands
kept_text _ commands = []

-- of each hole whether it is plated, in a file that is asked for it
abbrev pub kept_platings : PlatingKind → List DrillCommand → List Bool
kept_platings kind.Mixed commands = plated_of commands
kept_platings _ commands = []

-- the diameter of a tool
abbrev pub diameter_of_tool : Tool → ℤ
diameter_of_tool tool = tool.diameter

-- the diameters of tools, by their numbers
abbrev pub diameters : List (ℕ × Tool) → List (ℕ × ℤ)
diameters tools = map (λ entry. (entry.0, diameter_of_tool entry.1)) tools

-- the drill file of these commands, whose platings are known so, with what is kept of them; its holes and tools follow from them
abbrev pub file_of : PlatingKind → Keep → List DrillCommand → DrillFile
file_of plating keep commands = record {
  commands = kept_commands keep commands;
  text = text_or_fault (kept_text keep commands);
  holes = holes_of commands;
  plated = kept_platings plating commands;
  calls_plated = list_any calls_plated commands;
  calls_unplated = list_any calls_unplated commands;
  tools = tools_of commands;
}

-- the commands of a drill file, without its holes and tools
abbrev pub commands_in : DrillFile → List DrillCommand
commands_in file = file.commands
