-- Drill texts: texts whose lines spell legal commands up to the end of the file.
use Rattle.std.specs.Prelude.{◌≡◌, ℕ, ◌≤◌, true, List, [], ◌∷◌, ◌++◌, length, Result, Ok, Err}
use Rattle.std.specs.List.{list_any, AllByRecursion}
use Rattle.std.specs.Option.{option_to_list}
use Rattle.grid_units.specs.declared.fault.Reason.{Reason}
use Rattle.grid_units.specs.declared.fault.Fault.{Fault}
use Rattle.grid_units.specs.Results.{◌>>=◌}
use Rattle.grid_units.specs.Lists.{IsLegal}
use Rattle.drill_lines.specs.declared.command.DrillCommand.{DrillCommand}
use Rattle.drill_lines.specs.Lines.{without_end_blanks}
use Rattle.drill_lines.specs.Meaning.{meaning}
use Rattle.drill_text.specs.Lines.{Splits}
use Rattle.drill_text.specs.Lookback.{settings_after}
use Rattle.drill_text.specs.Profiles.{is_finish, Reads}
use Rattle.grid_units.specs.Limits.{text_limit, line_limit}
use Rattle.drill_text.specs.Rules.{broken_rule}

-- these commands and those that the lines after them spell, each line by the settings of the commands before it
abbrev pub spelled_after : List DrillCommand → List (List ℕ) → Result (List DrillCommand) Reason
spelled_after before [] = Ok before
spelled_after before (line ∷ lines) = meaning (settings_after before) (without_end_blanks line) >>= λ command. spelled_after (before ++ option_to_list command) lines

-- no line has more than 1,048,576 bytes (docs/FORMATS.md, Limits)
abbrev pub AreWithinLimit : List (List ℕ) → Type 0
AreWithinLimit lines = AllByRecursion (λ line. length line ≤ line_limit) lines

-- A text spells these commands: its lines, with the rest after the last LF, spell them in order, Finish is one of them, and nothing is too long.
pub record SpellsText (text : List ℕ) (commands : List DrillCommand) : Type 0 where
  pub lines : List (List ℕ)
  pub rest : List ℕ
  pub splits : Splits text lines rest
  pub within : length text ≤ text_limit
  pub short : AreWithinLimit (lines ++ rest ∷ [])
  pub spelling : spelled_after [] (lines ++ rest ∷ []) ≡ Ok commands
  pub ends : list_any is_finish commands ≡ true

-- a drill text of these commands: the text spells them, and none of them breaks a rule after those before it
pub record IsDrillText (text : List ℕ) (commands : List DrillCommand) : Type 0 where
  pub spells : SpellsText text commands
  pub legal : IsLegal broken_rule commands

-- a whole text is a drill text of commands that are seen as this (by `holes_of` as holes), or has this as its first fault
abbrev pub ReadsAs : {V : Type 0} → (List DrillCommand → V) → List ℕ → Result V Fault → Type 0
ReadsAs see text (Ok seen) = (commands : List DrillCommand) × IsDrillText text commands × (seen ≡ see commands)
ReadsAs see text (Err fault) = Reads text (Err fault)
