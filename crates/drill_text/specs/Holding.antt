-- What a reader in pieces holds of the bytes so far: the commands of the lines that have ended, and the bytes of the line
-- that has not ended. It does not keep the text.
use Rattle.std.specs.Prelude.{◌≡◌, ℕ, List, ◌++◌, length, Ok, Err, Option, None}
use Rattle.grid_units.specs.declared.fault.Fault.{Fault}
use Rattle.grid_units.specs.declared.fault.Fail.{Fail}
use Rattle.grid_units.specs.declared.fault.Fail.TheVariants as fails
use Rattle.drill_lines.specs.declared.command.DrillCommand.{DrillCommand}
use Rattle.grid_units.specs.declared.profile.Profile.{Profile}
use Rattle.grid_units.specs.declared.profile.Profile.TheVariants as profile
use Rattle.drill_text.specs.declared.reader.Progress.{Progress}
use Rattle.drill_text.specs.declared.reader.DrillReader.{DrillReader}
use Rattle.drill_text.specs.declared.kept.Keep.{Keep}
use Rattle.grid_units.specs.Results.{IfFault}
use Rattle.drill_text.specs.Lines.{bytes_of, Splits}
use Rattle.drill_text.specs.Profiles.{Kind, ShowsBy, plain, shown_by}
use Rattle.drill_text.specs.Keeping.{HasReadIn}

-- The text is cut into lines, which spell the commands that the reader has met, and into a rest, the line that has not ended.
pub record Holds (reader : Progress) (kind : Kind) (keep : Keep) (text : List ℕ) : Type 0 where
  pub lines : List (List ℕ)
  pub commands : List DrillCommand
  pub splits : Splits text lines reader.line.items
  pub spelled : shown_by kind lines reader.line.items ≡ Ok commands
  pub has_read : HasReadIn reader.reader reader.state reader.kept kind keep lines commands
  pub count : reader.lines ≡ length lines
  pub start : reader.start ≡ length (bytes_of lines)
  pub offset : reader.offset ≡ length text

-- the text of a file of this kind shows this fault, whatever bytes follow it
pub record HasFault (kind : Kind) (text : List ℕ) (f : Fault) : Type 0 where
  pub lines : List (List ℕ)
  pub rest : List ℕ
  pub splits : Splits text lines rest
  pub fault : shown_by kind lines rest ≡ Err f

-- whatever text the old reader has read, the new one has read that text and these bytes
abbrev pub Advances : Progress → Progress → List ℕ → Type 0
Advances old new bytes = (kind : Kind) (keep : Keep) (text : List ℕ) → Holds old kind keep text → Holds new kind keep (text ++ bytes)

-- whatever text the reader has read, that text with these bytes shows this fault; or memory ran out
abbrev pub Refuses : Progress → List ℕ → Fail → Type 0
Refuses old bytes fails.Memory = Unit {0}
Refuses old bytes (fails.Refused f) = (kind : Kind) (keep : Keep) (text : List ℕ) → Holds old kind keep text → HasFault kind (text ++ bytes) f

-- whatever text the reader has read, that text with this piece shows this fault; or memory ran out
abbrev pub RefusesText : Progress → List ℕ → Fail → Type 0
RefusesText old piece e = (kind : Kind) (keep : Keep) (text : List ℕ) → Holds old kind keep text → IfFault (λ f. ShowsBy kind (text ++ piece) (Err f)) e

-- the failure of a reader, `None` where it has not failed
abbrev pub failure : DrillReader → Option Fail
failure reader = reader.failed

-- The reader reads a file of this kind, has read this text, which shows no fault, and keeps what was asked for.
pub record StandsBy (reader : DrillReader) (kind : Kind) (keep : Keep) (text : List ℕ) : Type 0 where
  pub sound : failure reader ≡ None
  pub holds : Holds reader.progress kind keep text

-- the reader reads a file whose role is believed in this profile, has read this text, which shows no fault, and keeps what was asked for
abbrev pub StandsIn : DrillReader → Profile → Keep → List ℕ → Type 0
StandsIn reader profile keep text = StandsBy reader (plain profile) keep text

-- the same in the strict profile
abbrev pub StandsAfter : DrillReader → Keep → List ℕ → Type 0
StandsAfter reader keep text = StandsIn reader profile.Strict keep text
