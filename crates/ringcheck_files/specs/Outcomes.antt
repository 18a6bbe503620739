-- Why a run ends with the status Device.
use Rattle.std.specs.Prelude.{◌≡◌, ◌<◌, ◌⊎◌, ◌-◌, ◌^◌, ℕ, ⊤}
use Rattle.ringcheck_files.specs.declared.Status.{Status}
use Rattle.ringcheck_files.specs.declared.Status.TheVariants as status

-- a count of failures rose, or stands at its greatest value, 2^64 - 1
abbrev pub HasRisen : ℕ → ℕ → Type 0
HasRisen before after = (before < after) ⊎ (after ≡ 2 ^ 64 - 1)

-- a run that ends with Device, and neither ran out of memory nor had a writer that failed, has a cause: the loader's count of failures rose
abbrev pub HasCause : ℕ → ℕ → Status → Type 0
HasCause before after status.Device = HasRisen before after
HasCause before after _ = ⊤
