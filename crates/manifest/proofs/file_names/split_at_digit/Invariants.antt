use Rattle.manifest.proofs.Common.{◌≡◌, ℕ, ◌<◌, false, get_or, is_digit}
use Rattle.manifest.proofs.file_names.split_at_digit.Given as goal

abbrev pub invariant-loop-i : goal.invariant-loop-i
invariant-loop-i l = (k : ℕ) → k < l.i → is_digit (get_or l.word k 0) ≡ false
