-- What is held of a layer that is rewritten as it is read.
use Rattle.std.specs.Prelude.{◌≡◌, ℕ, ◌<◌, ◌≤◌, true, false, List, length}
use Rattle.grid_units.specs.declared.fault.Fault.{Fault}
use Rattle.grid_units.specs.declared.fault.Fail.TheVariants as fails
use Rattle.grid_units.specs.declared.profile.Profile.TheVariants.{Strict}
use Rattle.gerber_text.specs.Reading.{Entries}
use Rattle.gerber_text.specs.Holding.{StandsIn, FailsWithIn}
use Rattle.gerber_text.specs.Writing.{lines, without_places}
use Rattle.ringcheck_files.specs.declared.lines.Lines.{Lines}
use Rattle.ringcheck_files.specs.declared.layer_writer.LayerWriter.{LayerWriter}
use Rattle.grid_units.specs.Limits.{text_limit}

-- just this text is held, and it is within the limit of a text; or it is above that limit
pub record HoldsText (held : Lines) (text : List ℕ) : Type 0 where
  pub whole : held.is_long ≡ false → held.text.items ≡ text
  pub within : held.is_long ≡ false → length held.text.items ≤ text_limit
  pub long : held.is_long ≡ true → text_limit < length text

-- the canonical lines of these commands are held, or are too long
abbrev pub HoldsLines : Lines → Entries → Type 0
HoldsLines held commands = HoldsText held (lines (without_places commands))

-- the text was read so far in the strict profile without a fault of reading, and the lines of its commands are held
pub record IsWriterAfter (writer : LayerWriter) (text : List ℕ) : Type 0 where
  pub gone : Entries
  pub words : StandsIn writer.words Strict gone text
  pub lines : HoldsLines writer.lines gone

-- in the strict profile the text shows this fault of reading, after some commands
abbrev pub ShowsReadFault : List ℕ → Fault → Type 0
ShowsReadFault text f = (commands : Entries) × FailsWithIn Strict text commands (fails.Refused f)
