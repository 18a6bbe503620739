-- What reading all bytes of a reader answers.
use Rattle.std.specs.Prelude.{◌≡◌, ◌<◌, ◌≤◌, ℕ, List, length, Option, Some, None, Result, Ok, Err, Vec}
use Rattle.std.specs.declared.alloc.Global.{Global}
use Rattle.ringcheck_files.specs.declared.reader_bytes.ReadFail.{ReadFail}
use Rattle.ringcheck_files.specs.declared.reader_bytes.ReadFail.TheVariants.{ReadFault, TooLong, Memory}

-- the greatest limit of a file, in bytes (docs/FORMATS.md, Limits)
abbrev pub max_limit : ℕ
max_limit = 268435456

-- The bytes read are all that the reader had left, and within the limit; TooLong means that more than the limit were left. Of a
-- reader whose contracts do not name its bytes, only this is said: no more bytes are read than the limit.
abbrev pub ReadsAll : Option (List ℕ) → ℕ → Result (Vec ℕ Global) ReadFail → Type 0
ReadsAll None limit (Ok v) = length v.items ≤ limit
ReadsAll None limit (Err e) = Unit {0}
ReadsAll (Some left) limit (Ok v) = (v.items ≡ left) × (length left ≤ limit)
ReadsAll (Some left) limit (Err TooLong) = limit < length left
ReadsAll (Some left) limit (Err ReadFault) = Unit {0}
ReadsAll (Some left) limit (Err Memory) = Unit {0}

-- All that the reader had left, and within the limit, was handed on, so that this is true of it; TooLong means that more than the limit were
-- left. Of a reader whose contracts do not name its bytes, only this is said: no more bytes are handed on than the limit.
abbrev pub HandsAll : Option (List ℕ) → ℕ → (List ℕ → Type 0) → Result (Unit {0}) ReadFail → Type 0
HandsAll None limit IsTaken (Ok _) = (bytes : List ℕ) × (length bytes ≤ limit) × IsTaken bytes
HandsAll None limit IsTaken (Err e) = Unit {0}
HandsAll (Some left) limit IsTaken (Ok _) = (length left ≤ limit) × IsTaken left
HandsAll (Some left) limit IsTaken (Err TooLong) = limit < length left
HandsAll (Some left) limit IsTaken (Err ReadFault) = Unit {0}
HandsAll (Some left) limit IsTaken (Err Memory) = Unit {0}
