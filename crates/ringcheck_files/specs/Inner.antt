-- What is known of the reads made so far; these words stand in contracts of private functions alone.
pub mod Writing
use Rattle.std.specs.Prelude.{◌≡◌, ◌+◌, ◌≤◌, ◌<◌, ◌⊎◌, ℕ, true, false, List, length, take, Option, Some, None, Result, Ok, Err}
use Rattle.std.specs.Io.KnownBytes.{Consumes, IsAtEnd, Keeps}
use Rattle.ringcheck_files.specs.declared.reader_bytes.ReadFail.{ReadFail}
use Rattle.ringcheck_files.specs.declared.reader_bytes.ReadFail.TheVariants as fails
use Rattle.ringcheck_files.specs.declared.read_counter.ReadCounter.{ReadCounter}

-- how many more reads may be made than the limit has bytes
abbrev pub extra_reads : ℕ
extra_reads = 65536

-- no read was made, and so none has failed
pub record IsFresh (read_counter : ReadCounter) : Type 0 where
  pub made : read_counter.made ≡ 0
  pub failed : read_counter.has_failed ≡ false

-- What one read gave. The first `count` bytes of the block are the next ones of the reader; a block with room gets none only at
-- the end. An interrupted read took nothing, and a failed one is a ReadFault.
abbrev pub IsNextRead : Option (List ℕ) → Option (List ℕ) → List ℕ → Result (Option ℕ) ReadFail → Type 0
IsNextRead before after block (Ok (Some count)) = (count ≤ length block) × Consumes before after (take count block) × (count ≡ 0 → 0 < length block → IsAtEnd after)
IsNextRead before after block (Ok None) = Keeps before after
IsNextRead before after block (Err e) = e ≡ fails.ReadFault

-- a ReadFault has a cause: a read has failed, or as many were made as may be
abbrev pub HasReadCause : ReadCounter → ℕ → ReadFail → Type 0
HasReadCause read_counter limit e = e ≡ fails.ReadFault → (read_counter.has_failed ≡ true) ⊎ (read_counter.made ≡ limit + extra_reads)

-- So many bytes were the next ones that a reader had, and were handed on, so that `IsTaken` is true of them.
pub record HasHandedOn (before after : Option (List ℕ)) (IsTaken : List ℕ → Type 0) (total : ℕ) : Type 0 where
  pub bytes : List ℕ
  pub size : length bytes ≡ total
  pub read : Consumes before after bytes
  pub taken : IsTaken bytes
