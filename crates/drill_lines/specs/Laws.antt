-- Laws of the rows and the grammar of drill lines: they say the same of each line.
use Rattle.std.specs.Prelude.{◌≡◌, ◌↔◌, ℕ, Bool, List, Option, Some, None, Ok}
use Rattle.drill_lines.specs.declared.command.Repeat.{Repeat}
use Rattle.drill_lines.specs.declared.command.Settings.{Settings}
use Rattle.drill_lines.specs.declared.command.DrillCommand.{DrillCommand}
use Rattle.drill_lines.specs.Meaning.{meaning}
use Rattle.drill_lines.specs.Grammar.{IsLine}
use Rattle.drill_lines.specs.Repeats.{IsRepeatLine, repeat_in, repeat_row}
use Rattle.drill_lines.specs.Routes.{meaning_in}
use Rattle.grid_units.specs.declared.profile.Profile.{Profile}

-- what the rows answer for a line is so written
abbrev pub AnswersAreWritten : Type 0
AnswersAreWritten = (settings : Settings) (line : List ℕ) (spelled : Option DrillCommand) → meaning settings line ≡ Ok spelled → IsLine settings line spelled

-- of a line that is so written the rows answer just that
abbrev pub WrittenIsAnswered : Type 0
WrittenIsAnswered = (settings : Settings) (line : List ℕ) (spelled : Option DrillCommand) → IsLine settings line spelled → meaning settings line ≡ Ok spelled

-- a line spells at most one command, or nothing
abbrev pub SpellsAtMostOne : Type 0
SpellsAtMostOne = (settings : Settings) (line : List ℕ) (spelled other : Option DrillCommand) → IsLine settings line spelled → IsLine settings line other → spelled ≡ other

-- a line that spells a command or nothing in a profile, after whatever lines, repeats no hit: what is read without repeats is read as it is without them
abbrev pub SpelledRepeatsNone : Type 0
SpelledRepeatsNone = (profile : Profile) (after_hit : Bool) (earlier : List (List ℕ)) (settings : Settings) (line : List ℕ) (spelled : Option DrillCommand)
    → meaning_in profile earlier settings line ≡ Ok spelled → repeat_in profile after_hit earlier settings line ≡ None

-- a line is read as a repeat of a hit just where it is so written
abbrev pub RepeatsAreWritten : Type 0
RepeatsAreWritten = (settings : Settings) (line : List ℕ) (repeat : Repeat) → (repeat_row settings.part settings line ≡ Some (Ok repeat)) ↔ (IsRepeatLine settings line repeat)
