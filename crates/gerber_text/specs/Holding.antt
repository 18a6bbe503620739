-- What a reader in pieces holds of the bytes so far: the commands of the items that have ended, except those it has dropped,
-- and the bytes of the item that has not ended. It does not keep the text.
use Rattle.std.specs.Prelude.{◌≡◌, ℕ, suc, ◌<◌, ◌≤◌, false, List, [], ◌∷◌, ◌++◌, length, take, drop, Result, Ok, Err, Option, None, Some}
use Rattle.grid_units.specs.Results.{IfFault}
use Rattle.grid_units.specs.declared.fault.Fail.{Fail}
use Rattle.grid_units.specs.declared.fault.Fail.TheVariants as fails
use Rattle.grid_units.specs.declared.profile.Profile.{Profile}
use Rattle.gerber_text.specs.declared.reader.Progress.{Progress}
use Rattle.gerber_text.specs.declared.reader.WordReader.{WordReader}
use Rattle.gerber_text.specs.declared.placed.PassedOperation.{PassedOperation}
use Rattle.gerber_text.specs.declared.placed.PassedText.{PassedText}
use Rattle.gerber_text.specs.FastPath.{operation_commands, text_command}
use Rattle.gerber_text.specs.Cut.{OffsetByte, offset_bytes, bytes_of, first_offset, has_end, Splits}
use Rattle.gerber_text.specs.Reading.{Entries, item_entries, commands_by, shown_by, ShowsIn, ReadsIn, SpellsBeforeFaultIn, latest_action}

-- The reader reads in this profile. The text is cut into items, which spell the commands that are gone and those that the reader holds,
-- and into a rest, whose bytes are the unfinished item.
pub record Holds (reader : Progress) (profile : Profile) (gone : Entries) (text : List ℕ) : Type 0 where
  pub profile_is : reader.profile ≡ profile
  pub items : List (List OffsetByte)
  pub rest : List OffsetByte
  pub splits : Splits (offset_bytes text) items rest
  pub commands : shown_by profile items rest ≡ Ok (gone ++ reader.commands.items)
  pub latest : reader.latest ≡ latest_action (gone ++ reader.commands.items)
  pub count : reader.items ≡ length items
  pub pending : has_end items ≡ false → reader.item.items ≡ bytes_of rest
  pub start : has_end items ≡ false → 0 < length rest → reader.start ≡ first_offset rest
  pub offset : reader.offset ≡ length text
  pub ended : reader.ended ≡ has_end items

-- These bytes begin with items that spell these commands in the profile. The failure is the fault that the bytes show at the next
-- place, whatever follows them; or memory ran out.
pub record FailsOnBytes (profile : Profile) (ms : List OffsetByte) (commands : Entries) (e : Fail) : Type 0 where
  pub items : List (List OffsetByte)
  pub rest : List OffsetByte
  pub splits : Splits ms items rest
  pub kept : ℕ
  pub within : kept ≤ length items
  pub spelled : commands_by profile 1 (take kept items) [] ≡ Ok commands
  pub reported : IfFault (λ f. (shown_by profile items rest ≡ Err f) × (f.place ≡ suc kept)) e

-- whatever text the old reader has read, the new one has read that text and these bytes
abbrev pub Advances : Progress → Progress → List ℕ → Type 0
Advances old new bytes = (profile : Profile) (gone : Entries) (text : List ℕ) → Holds old profile gone text → Holds new profile gone (text ++ bytes)

-- whatever text the reader has read, it stops within these bytes after it, and keeps these commands
abbrev pub Refuses : Progress → Entries → List ℕ → Fail → Type 0
Refuses old left bytes e = (profile : Profile) (gone : Entries) (text : List ℕ) → Holds old profile gone text
    → FailsOnBytes profile (offset_bytes (text ++ bytes)) (gone ++ left) e

-- the failure is the fault that this text shows in the profile, or memory ran out; and these are the commands before it
pub record FailsWithIn (profile : Profile) (text : List ℕ) (commands : Entries) (e : Fail) : Type 0 where
  pub reported : IfFault (λ f. ShowsIn profile text (Err f)) e
  pub kept : SpellsBeforeFaultIn profile text e commands

-- whatever text the reader has read, it fails within this piece after it, and keeps these commands
abbrev pub RefusesText : Progress → Entries → List ℕ → Fail → Type 0
RefusesText old left piece e = (profile : Profile) (gone : Entries) (text : List ℕ) → Holds old profile gone text
    → FailsWithIn profile (text ++ piece) (gone ++ left) e

-- the text ends here: in the profile it has no fault and these commands, or it has this fault and these commands before it
abbrev pub Ends : {X : Type 0} → Profile → List ℕ → Entries → Result X Fail → Type 0
Ends profile text commands (Ok _) = ReadsIn profile text (Ok commands)
Ends profile text commands (Err fails.Memory) = ⊥
Ends profile text commands (Err (fails.Refused f)) = ReadsIn profile text (Err f) × SpellsBeforeFaultIn profile text (fails.Refused f) commands

-- the failure of a reader, `None` where it has not failed
abbrev pub failure : WordReader → Option Fail
failure reader = reader.failed

-- the commands that a reader holds, without those that it has dropped
abbrev pub held_entries : WordReader → Entries
held_entries reader = reader.progress.commands.items

-- The reader reads in this profile, has read this text, which shows no fault, and has dropped these commands, the first ones.
pub record StandsIn (reader : WordReader) (profile : Profile) (gone : Entries) (text : List ℕ) : Type 0 where
  pub sound : failure reader ≡ None
  pub holds : Holds reader.progress profile gone text

-- The reader has failed within this text, read in this profile, with this failure, and had dropped these commands, the first ones.
pub record FailedIn (reader : WordReader) (profile : Profile) (gone : Entries) (text : List ℕ) (e : Fail) : Type 0 where
  pub failed : failure reader ≡ Some e
  pub fails : FailsWithIn profile text (gone ++ reader.progress.commands.items) e

-- the commands of an operation that a reader has passed, each with the number of the item and the offset of its first byte
abbrev pub passed_entries : PassedOperation → Entries
passed_entries passed = item_entries passed.place passed.byte (operation_commands passed.operation)

-- the text of a comment or an attribute that a reader has passed: in the bytes that the reader was given, it stands after three
abbrev pub passed_text : PassedText → List ℕ → List ℕ
passed_text passed bytes = take passed.item.text_len (drop 3 bytes)

-- the command of a text that a reader has passed, with the number of the item and the offset of its first byte
abbrev pub text_entries : PassedText → List ℕ → Entries
text_entries passed text = item_entries passed.place passed.byte (text_command passed.item.kind text ∷ [])
