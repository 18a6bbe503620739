-- What a status says of a run of the program, once what it held back is written, and where there are no words to run on.
use Rattle.std.specs.Prelude.{◌≡◌, ◌⊎◌, ℕ, List, Option, Result, Ok, Err, drop, map}
use Rattle.std.specs.Io.Buffered.{writer_contents}
use Rattle.std.specs.Io.KnownBytes.{Appends, Keeps}
use Rattle.std.specs.IoError.{error_kind}
use Rattle.std.specs.String.{string_bytes}
use Rattle.std.specs.declared.io.buffered.BufWriter.{BufWriter}
use Rattle.std.specs.declared.string.String.{String}
use Rattle.std.specs.declared.io.Error.{Error}
use Rattle.std.specs.declared.io.ErrorKind.{ErrorKind}
use Rattle.std.specs.declared.io.ErrorKind.TheVariants.{InvalidData}
use Rattle.ringcheck.specs.RequestStatus.{IsProgramStatus}
use Rattle.ringcheck_files.specs.ExitCodes.{code_of}
use Rattle.ringcheck_files.specs.LoaderRelation.{Relation}
use Rattle.ringcheck_files.specs.Writers.{Written, texts}
use Rattle.ringcheck_files.specs.declared.Status.{Status}
use Rattle.ringcheck_files.specs.declared.Status.TheVariants as status
use Rattle.ringcheck_files.specs.declared.outcomes.Streams.{Streams}
use Rattle.ringcheck_program.specs.declared.TheConstants.{NO_TEXT}

-- the words of a command line: the arguments without the first, which is the program's name
abbrev pub words_of : {A : Type 0} → List (String A) → List (List ℕ)
words_of arguments = map string_bytes (drop 1 arguments)

-- what a run ends with, and the writer, once what was held back is written: it ends as before, and the writer holds all of it, or with Device
abbrev pub IsWrittenOut : {W A : Type 0} → (W → Option (List ℕ)) → BufWriter W A → Status → Status × W → Type 0
IsWrittenOut contents held before ended = ((ended.0 ≡ before) × Keeps (writer_contents contents held) (contents ended.1)) ⊎ (ended.0 ≡ status.Device)

-- what a run on any words ends with, and its two writers, where what is printed is held back: its status says what it says of the words, and
-- the writers hold all that was printed, where that is known, or it is Device
abbrev pub IsHeldBackStatus : {W E : Type 0} → List (List ℕ) → Relation → ℕ → ℕ
    → (W → Option (List ℕ)) → (E → Option (List ℕ)) → Streams W E → Status × Streams W E → Type 0
IsHeldBackStatus words has failed_before failed_after answered said to ended =
    ((printed : Written) × IsProgramStatus words has failed_before failed_after (texts answered said to) printed ended.0
    × Keeps printed.0 (answered ended.1.out) × Keeps printed.1 (said ended.1.err)) ⊎ (ended.0 ≡ status.Device)

-- what a status says where there are no words, by the error's kind: one is not UTF-8, and this was printed, or it is Device
abbrev pub IsWordlessStatus : ErrorKind → Option (List ℕ) → Option (List ℕ) → Status → Type 0
IsWordlessStatus kind before after s = ((s ≡ status.Usage) × (kind ≡ InvalidData) × Appends before after NO_TEXT.now) ⊎ (s ≡ status.Device)

-- what an exit code says of how a run ended, and of what was printed after that: the code is that of the run's status, and nothing was, or
-- it is that of what a status says where there are no words
abbrev pub IsExitCode : Result Status Error → Option (List ℕ) → Option (List ℕ) → ℕ → Type 0
IsExitCode (Ok s) before after code = (code ≡ code_of s) × Keeps before after
IsExitCode (Err error) before after code = (s : Status) × IsWordlessStatus (error_kind error) before after s × (code ≡ code_of s)
