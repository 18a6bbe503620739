-- The commands of a drill text in a profile, or its first fault. Each line is read by those before it; mixed files and unplated ones have a rule more
-- (docs/FORMATS.md, Drill lines; The first fault; The wide profile; Mixed drill files; Unplated drill files).
use Rattle.std.specs.Prelude.{◌≡◌, ℕ, suc, ◌+◌, Bool, true, false, nat_lt, List, [], ◌∷◌, ◌++◌, length, take, map, if◌then◌else◌, Option, None, Some, unwrap_or, Result, Ok, Err}
use Rattle.std.specs.List.{list_any}
use Rattle.std.specs.Option.{option_map, option_to_list}
use Rattle.grid_units.specs.declared.fault.Reason.{Reason}
use Rattle.grid_units.specs.declared.fault.Reason.TheVariants.{TooLong, Truncated}
use Rattle.grid_units.specs.declared.fault.Fault.{Fault}
use Rattle.grid_units.specs.Results.{◌>>=◌, fault, with_place}
use Rattle.grid_units.specs.Rows.{RowOf}
use Rattle.drill_lines.specs.declared.command.DrillCommand.{DrillCommand}
use Rattle.drill_lines.specs.declared.command.CoordinateFormat.{CoordinateFormat}
use Rattle.drill_lines.specs.declared.command.DrillCommand.TheVariants.{Finish, UnitLine}
use Rattle.grid_units.specs.declared.profile.Profile.{Profile}
use Rattle.grid_units.specs.declared.profile.Profile.TheVariants.{Strict}
use Rattle.drill_lines.specs.declared.command.Repeat.{Repeat}
use Rattle.drill_lines.specs.Lines.{without_end_blanks}
use Rattle.drill_lines.specs.Repeats.{repeat_in}
use Rattle.drill_lines.specs.Routes.{meaning_in}
use Rattle.drill_text.specs.declared.platings.PlatingKind.{PlatingKind}
use Rattle.drill_text.specs.declared.platings.PlatingKind.TheVariants as plating
use Rattle.drill_text.specs.Lines.{bytes_of, Splits}
use Rattle.drill_text.specs.Lookback.{settings_after}
use Rattle.drill_text.specs.Plating.{rule_in}
use Rattle.drill_text.specs.Repeats.{ends_in_hit, further_hits}
use Rattle.grid_units.specs.Limits.{text_limit, line_limit}

-- the kind of a drill file: in which profile it is read, by what it is known which of its holes are plated, and what is said of its coordinates beside it
pub record Kind : Type 0 where
  pub profile : Profile
  pub plating : PlatingKind
  pub format : Option CoordinateFormat

-- a file whose role says of all its holes whether they are plated, and is believed, and of whose coordinates this is said
abbrev pub by_role : Profile → Option CoordinateFormat → Kind
by_role profile format = record { profile = profile; plating = plating.Stated; format = format }

-- such a file of whose coordinates nothing is said
abbrev pub plain : Profile → Kind
plain profile = by_role profile None

-- a file whose role says that no hole is plated, and whose own words are held to that
abbrev pub unplated_in : Profile → Kind
unplated_in profile = record { profile = profile; plating = plating.Unplated; format = None }

-- a mixed file
abbrev pub mixed_in : Profile → Kind
mixed_in profile = record { profile = profile; plating = plating.Mixed; format = None }

-- what stands before the first line: what is said of the coordinates, as a line of the header would say it (`INCH,TZ,00.0000`)
abbrev pub said_first : Option CoordinateFormat → List DrillCommand
said_first said = option_to_list (option_map (λ format. UnitLine format.unit format.zeros format.digits) said)

-- ---- one line

-- these commands and one more, unless it breaks this rule
abbrev pub add_unless : Option Reason → List DrillCommand → DrillCommand → Result (List DrillCommand) Reason
add_unless None before c = Ok (before ++ c ∷ [])
add_unless (Some broken) before c = Err broken

-- these commands and the one that a line spells, if it spells one, or the first rule that it breaks
abbrev pub checked_by : (List DrillCommand → DrillCommand → Option Reason) → List DrillCommand → Option DrillCommand → Result (List DrillCommand) Reason
checked_by rule before None = Ok before
checked_by rule before (Some c) = add_unless (rule before c) before c

-- these commands and further ones in order, or the first rule that one of them breaks
abbrev pub checked_all : (List DrillCommand → DrillCommand → Option Reason) → List DrillCommand → List DrillCommand → Result (List DrillCommand) Reason
checked_all rule before [] = Ok before
checked_all rule before (c ∷ cs) = add_unless (rule before c) before c >>= λ taken. checked_all rule taken cs

-- these commands and the further hits of a repeat, or its refusal, or the first rule that one of them breaks
abbrev pub checked_repeat : (List DrillCommand → DrillCommand → Option Reason) → List DrillCommand → Result Repeat Reason → Result (List DrillCommand) Reason
checked_repeat rule before read = read >>= λ repeat. checked_all rule before (further_hits before repeat)

-- how a line repeats the last hit, in a profile, after these lines and commands; `None` for a line that does not
abbrev pub repeat_after : Profile → List (List ℕ) → List DrillCommand → List ℕ → RowOf Repeat
repeat_after profile earlier before line = repeat_in profile (ends_in_hit before) (map without_end_blanks earlier) (settings_after before) (without_end_blanks line)

-- one more line after these, which spell these commands: TooLong above 1,048,576 bytes; else it is read by what stands before it, and judged
unfoldable pub step_in : Kind → List (List ℕ) → List DrillCommand → List ℕ → Result (List DrillCommand) Reason
step_in kind earlier before line =
    if nat_lt line_limit (length line) then Err TooLong
    else unwrap_or (option_map (checked_repeat (rule_in kind.profile kind.plating) before) (repeat_after kind.profile earlier before line))
    (meaning_in kind.profile (map without_end_blanks earlier) (settings_after before) (without_end_blanks line) >>= checked_by (rule_in kind.profile kind.plating) before)

-- one more line after these; a refusal is its fault, at the number of the line, from 1, and at the offset of its first byte
abbrev pub spelled_in : Kind → List (List ℕ) → List ℕ → List DrillCommand → Result (List DrillCommand) Fault
spelled_in kind earlier line before = with_place (suc (length earlier)) (length (bytes_of earlier)) (step_in kind earlier before line)

-- ---- all lines

-- after the first lines and their commands, these commands and those of the lines that follow; or the fault of the first that has one
abbrev pub commands_by : Kind → List (List ℕ) → List (List ℕ) → List DrillCommand → Result (List DrillCommand) Fault
commands_by kind earlier [] before = Ok before
commands_by kind earlier (line ∷ lines) before = spelled_in kind earlier line before >>= commands_by kind (earlier ++ line ∷ []) lines

-- the commands, or the first fault that these lines and this rest show, whatever bytes follow
abbrev pub shown_by : Kind → List (List ℕ) → List ℕ → Result (List DrillCommand) Fault
shown_by kind lines rest = commands_by kind [] lines (said_first kind.format) >>= λ commands.
    if nat_lt line_limit (length rest) then Err (fault (suc (length lines)) (length (bytes_of lines)) TooLong) else Ok commands

-- what is shown in a text of this length: TooLong above 268,435,456 bytes, unless there is an earlier fault
abbrev pub shown_within : Kind → ℕ → List (List ℕ) → List ℕ → Result (List DrillCommand) Fault
shown_within kind len lines rest = shown_by kind lines rest >>= λ commands. if nat_lt text_limit len then Err (fault (suc (length lines)) text_limit TooLong) else Ok commands

-- A text that is read so shows these commands or this fault, whatever bytes follow it.
pub record ShowsBy (kind : Kind) (text : List ℕ) (answer : Result (List DrillCommand) Fault) : Type 0 where
  pub lines : List (List ℕ)
  pub rest : List ℕ
  pub splits : Splits (take text_limit text) lines rest
  pub answer_is : answer ≡ shown_within kind (length text) lines rest

-- ---- whole texts

-- Finish, the end of the file, which `M30` spells
abbrev pub is_finish : DrillCommand → Bool
is_finish Finish = true
is_finish _ = false

-- the number of the line after so many lines and a rest; a rest with at least one byte is a line too
abbrev pub place_after_count : ℕ → List ℕ → ℕ
place_after_count count [] = count + 1
place_after_count count (b ∷ bs) = count + 2

-- the number of the line after the last one of a text
abbrev pub place_after : List (List ℕ) → List ℕ → ℕ
place_after lines rest = place_after_count (length lines) rest

-- the commands of a text that ends here; without `M30` it is Truncated after its last line, at the text's length
abbrev pub commands_at_end : ℕ → List (List ℕ) → List ℕ → List DrillCommand → Result (List DrillCommand) Fault
commands_at_end len lines rest commands = if list_any is_finish commands then Ok commands else Err (fault (place_after lines rest) len Truncated)

-- the rest after the last LF is a line too, if it has a byte
abbrev pub with_rest : Kind → List (List ℕ) → List ℕ → List DrillCommand → Result (List DrillCommand) Fault
with_rest kind lines [] commands = Ok commands
with_rest kind lines (b ∷ bs) commands = spelled_in kind lines (b ∷ bs) commands

-- the commands of a whole text of this length; or its first fault
abbrev pub read_by : Kind → ℕ → List (List ℕ) → List ℕ → Result (List DrillCommand) Fault
read_by kind len lines rest = shown_by kind lines rest >>= λ commands.
    if nat_lt text_limit len then Err (fault (suc (length lines)) text_limit TooLong)
    else (with_rest kind lines rest commands >>= commands_at_end len lines rest)

-- A whole text that is read so spells these commands, which are legal, or has this as its first fault.
pub record ReadsBy (kind : Kind) (text : List ℕ) (answer : Result (List DrillCommand) Fault) : Type 0 where
  pub lines : List (List ℕ)
  pub rest : List ℕ
  pub splits : Splits (take text_limit text) lines rest
  pub answer_is : answer ≡ read_by kind (length text) lines rest

-- ---- of files whose role is believed

-- a text shows this in the profile, as a file whose role says whether its holes are plated
abbrev pub ShowsIn : Profile → List ℕ → Result (List DrillCommand) Fault → Type 0
ShowsIn profile text answer = ShowsBy (plain profile) text answer

-- a whole text is read as this in the profile, as a file whose role says whether its holes are plated
abbrev pub ReadsIn : Profile → List ℕ → Result (List DrillCommand) Fault → Type 0
ReadsIn profile text answer = ReadsBy (plain profile) text answer

-- a whole text that is read so spells commands that are seen as this (by `holes_of` as holes), or has this as its first fault
abbrev pub ReadsAsBy : {V : Type 0} → Kind → (List DrillCommand → V) → List ℕ → Result V Fault → Type 0
ReadsAsBy kind see text (Ok seen) = (commands : List DrillCommand) × ReadsBy kind text (Ok commands) × (seen ≡ see commands)
ReadsAsBy kind see text (Err fault) = ReadsBy kind text (Err fault)

-- the same in the profile, of a file whose role says whether its holes are plated
abbrev pub ReadsAsIn : {V : Type 0} → Profile → (List DrillCommand → V) → List ℕ → Result V Fault → Type 0
ReadsAsIn profile see text answer = ReadsAsBy (plain profile) see text answer

-- a text shows this in the strict profile
abbrev pub Shows : List ℕ → Result (List DrillCommand) Fault → Type 0
Shows text answer = ShowsIn Strict text answer

-- a whole text is read as this in the strict profile
abbrev pub Reads : List ℕ → Result (List DrillCommand) Fault → Type 0
Reads text answer = ReadsIn Strict text answer
