-- Laws of the kinds of drill files: mixed files and unplated ones are read as other files are but for the rule that they have beside the others.
-- Each hole of a mixed file is called plated or unplated, and no comment of an unplated one says that holes are plated.
use Rattle.std.specs.Prelude.{◌≡◌, ◌↔◌, ℕ, Bool, false, List, length, Ok}
use Rattle.std.specs.List.{list_any}
use Rattle.grid_units.specs.Lists.{IsLegal}
use Rattle.drill_lines.specs.declared.command.DrillCommand.{DrillCommand}
use Rattle.drill_text.specs.Holes.{holes_of}
use Rattle.drill_text.specs.Plating.{AreCalled, calls_plated, contradiction_rule, own_rule, plated_of, plating_rule}
use Rattle.drill_text.specs.Profiles.{Kind, ReadsBy, by_role}

-- a text is read as commands of a kind of file just where it is read as these by its role alone, and none of them breaks the kind's own rule
abbrev pub KindsReadTheSame : Type 0
KindsReadTheSame = (kind : Kind) (text : List ℕ) (commands : List DrillCommand) → (ReadsBy kind text (Ok commands)) ↔ (ReadsBy (by_role kind.profile kind.format) text (Ok commands) × IsLegal (own_rule kind.plating) commands)

-- commands break no rule of unplated files just where no comment says that holes are plated
abbrev pub UncontradictedIsLegal : Type 0
UncontradictedIsLegal = (commands : List DrillCommand) → (IsLegal contradiction_rule commands) ↔ (list_any calls_plated commands ≡ false)

-- where no command breaks the rules of mixed files, each hole is called what is listed of it
abbrev pub ListedIsCalled : Type 0
ListedIsCalled = (commands : List DrillCommand) → IsLegal plating_rule commands → AreCalled commands (plated_of commands)

-- what the holes are called is what is listed of them
abbrev pub CalledIsListed : Type 0
CalledIsListed = (commands : List DrillCommand) (plated : List Bool) → AreCalled commands plated → plated ≡ plated_of commands

-- there is a plating for each hole
abbrev pub OneForEach : Type 0
OneForEach = (commands : List DrillCommand) → length (plated_of commands) ≡ length (holes_of commands)
