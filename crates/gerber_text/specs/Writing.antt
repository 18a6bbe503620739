-- The canonical text of a list of commands (docs/FORMATS.md, The canonical Gerber text).
use Rattle.std.specs.Prelude.{◌≡◌, ℕ, Bool, false, not, ◌&&◌, nat_lt, List, [], ◌∷◌, ◌++◌, length, map, Result, Ok, Err, if◌then◌else◌}
use Rattle.std.specs.List.{flat_map}
use Rattle.std.specs.Global.{Vec}
use Rattle.grid_units.specs.Results.{fault}
use Rattle.grid_units.specs.declared.fault.Fault.{Fault}
use Rattle.grid_units.specs.declared.fault.Reason.TheVariants.{TooLong}
use Rattle.grid_units.specs.declared.profile.Profile.TheVariants.{Strict}
use Rattle.gerber_commands.specs.declared.command.Command.{Command}
use Rattle.gerber_commands.specs.Canonical.{canonical}
use Rattle.gerber_text.specs.Sayable.{is_sayable, is_finish}
use Rattle.gerber_text.specs.Reading.{Entries, ReadsIn}
use Rattle.grid_units.specs.Limits.{text_limit}
use Rattle.grid_units.specs.Ascii as ascii

-- the canonical item of each command, with an LF after it
abbrev pub lines : List Command → List ℕ
lines commands = flat_map (λ command. canonical command ++ ascii.line_feed ∷ []) commands

-- a text of at most 268,435,456 bytes; a longer one is TooLong at place 0 and byte 0
abbrev pub limited_text : List ℕ → Result (List ℕ) Fault
limited_text text = if nat_lt text_limit (length text) then Err (fault 0 0 TooLong) else Ok text

-- the canonical text, or TooLong: Select(10) and Finish are `D10*`, LF, `M02*`, LF
abbrev pub canonical_text : List Command → Result (List ℕ) Fault
canonical_text commands = limited_text (lines commands)

-- the commands alone, without their places and offsets
abbrev pub without_places : Entries → List Command
without_places entries = map (λ entry. entry.what) entries

-- A list is sayable where the end of the text is its last command and stands nowhere else, and each command is one that some item
-- spells and whose canonical item is within the limit. So the empty list is not.
abbrev pub sayable : List Command → Bool
sayable [] = false
sayable (c ∷ []) = is_sayable c && is_finish c
sayable (c ∷ d ∷ cs) = is_sayable c && (not (is_finish c) && sayable (d ∷ cs))

-- In the strict profile the text spells just these commands, at whatever places.
pub record ReadsAs (text : List ℕ) (commands : List Command) : Type 0 where
  pub entries : Entries
  pub reads : ReadsIn Strict text (Ok entries)
  pub same : without_places entries ≡ commands

-- the bytes that a vector holds, in order
abbrev pub vec_bytes : Vec ℕ → List ℕ
vec_bytes v = v.items
