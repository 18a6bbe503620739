-- What a reader has met and keeps of the commands of a text.
use Rattle.std.specs.Prelude.{◌≡◌, ℕ, List, [], ◌∷◌, ◌++◌, map, Option, Result, Ok, Err}
use Rattle.std.specs.List.{list_any}
use Rattle.grid_units.specs.Results.{IfFault, with_place}
use Rattle.grid_units.specs.declared.fault.Reason.{Reason}
use Rattle.grid_units.specs.declared.fault.Fault.{Fault}
use Rattle.grid_units.specs.declared.fault.Fail.{Fail}
use Rattle.drill_lines.specs.declared.command.DrillCommand.{DrillCommand}
use Rattle.drill_lines.specs.declared.line_reader.LineReader.{LineReader}
use Rattle.drill_lines.specs.Lines.{without_end_blanks}
use Rattle.drill_lines.specs.LineReading.{HasReadLines}
use Rattle.drill_text.specs.declared.state.DrillState.{DrillState}
use Rattle.drill_text.specs.Lookback.{settings_after}
use Rattle.drill_text.specs.declared.kept.Keep.{Keep}
use Rattle.drill_text.specs.declared.kept.KeptCommands.{KeptCommands}
use Rattle.drill_text.specs.Outcome.{kept_commands, kept_text}
use Rattle.drill_text.specs.Writing.{text_or_fault}
use Rattle.drill_text.specs.Plating.{rule_in}
use Rattle.drill_text.specs.Profiles.{Kind, is_finish}
use Rattle.drill_text.specs.Repeats.{ends_in_hit}
use Rattle.drill_text.specs.Inner.StateSteps.{IsStateAfter}

-- What was asked for is kept of the commands that were taken in; and whether the end of the file is among them.
pub record KeepsCommands (kept : KeptCommands) (keep : Keep) (taken : List DrillCommand) : Type 0 where
  pub asked : kept.keep ≡ keep
  pub commands : kept.commands.items ≡ kept_commands keep taken
  pub text : text_or_fault kept.text.items ≡ text_or_fault (kept_text keep taken)
  pub finished : kept.is_finished ≡ list_any is_finish taken

-- whatever was kept, it is kept with this command more
abbrev pub KeepsNext : KeptCommands → DrillCommand → KeptCommands → Type 0
KeepsNext old c new = (keep : Keep) (taken : List DrillCommand) → KeepsCommands old keep taken → KeepsCommands new keep (taken ++ c ∷ [])

-- the state is that after just these commands of a file of this kind, what was asked for is kept of them, and it is known whether the last is a hit
pub record HasRead (state : DrillState) (kept : KeptCommands) (kind : Kind) (keep : Keep) (commands : List DrillCommand) : Type 0 where
  pub is_state : IsStateAfter state kind commands
  pub keeps : KeepsCommands kept keep commands
  pub after_hit : kept.is_after_hit ≡ ends_in_hit commands

-- The command was judged: the state is now that after the commands after it; or this is its fault, or memory ran out.
abbrev pub ResultsIn : {X : Type 0} → Result X Fail → DrillState → KeptCommands → Kind → Keep → Result (List DrillCommand) Fault → Type 0
ResultsIn (Ok x) state kept kind keep read = (commands : List DrillCommand) × (read ≡ Ok commands) × HasRead state kept kind keep commands
ResultsIn (Err e) state kept kind keep read = IfFault (λ f. read ≡ Err f) e

-- how commands are judged after others, by a rule
abbrev pub Judging : Type 0
Judging = (List DrillCommand → DrillCommand → Option Reason) → List DrillCommand → Result (List DrillCommand) Reason

-- whatever was read before, more commands were judged so, by the rule of the kind of file: the state is now that after them, or this is the fault
abbrev pub KeepsMore : {X : Type 0} → Result X Fail → DrillState → KeptCommands → DrillState → KeptCommands → ℕ → ℕ → Judging → Type 0
KeepsMore result state kept new_state new_kept place byte judged = (kind : Kind) (keep : Keep) (before : List DrillCommand)
    → HasRead state kept kind keep before → ResultsIn result new_state new_kept kind keep (with_place place byte (judged (rule_in kind.profile kind.plating) before))

-- these lines of a file of this kind were read, the state is that after just these commands, and what was asked for is kept of them
pub record HasReadIn (reader : LineReader) (state : DrillState) (kept : KeptCommands) (kind : Kind) (keep : Keep) (earlier : List (List ℕ)) (commands : List DrillCommand) : Type 0 where
  pub lines : HasReadLines reader kind.profile (settings_after commands) (map without_end_blanks earlier)
  pub has_read : HasRead state kept kind keep commands

-- The line was read and judged: the state is now that after the commands after it; or this is its fault, or memory ran out.
abbrev pub ResultsInLine : {X : Type 0} → Result X Fail → LineReader → DrillState → KeptCommands → Kind → Keep → List (List ℕ) → List ℕ → Result (List DrillCommand) Fault → Type 0
ResultsInLine (Ok x) reader state kept kind keep earlier line read = (commands : List DrillCommand) × (read ≡ Ok commands) × HasReadIn reader state kept kind keep (earlier ++ line ∷ []) commands
ResultsInLine (Err e) reader state kept kind keep earlier line read = IfFault (λ f. read ≡ Err f) e
