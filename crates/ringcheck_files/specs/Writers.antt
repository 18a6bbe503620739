-- What the two writers of a run get: one what is answered, the other what is said beside it.
use Rattle.std.specs.Prelude.{◌≡◌, ℕ, List, Option, ⊤}
use Rattle.ringcheck_files.specs.declared.Status.{Status}
use Rattle.ringcheck_files.specs.declared.Status.TheVariants as status
use Rattle.ringcheck_files.specs.declared.outcomes.Streams.{Streams}

-- the bytes that the writer of the answer and the writer beside it hold, each where they are known
abbrev pub Written : Type 0
Written = Option (List ℕ) × Option (List ℕ)

-- the bytes that two writers hold, by those that each holds
abbrev pub texts : {W E : Type 0} → (W → Option (List ℕ)) → (E → Option (List ℕ)) → Streams W E → Written
texts answered said to = (answered to.out, said to.err)

-- nothing was said beside the answer
abbrev pub IsSilent : Written → Written → Type 0
IsSilent before after = after.1 ≡ before.1

-- by a status nothing was said beside the answer; Device says nothing
abbrev pub IsSilentStatus : Written → Written → Status → Type 0
IsSilentStatus before after status.Device = ⊤
IsSilentStatus before after s = IsSilent before after
