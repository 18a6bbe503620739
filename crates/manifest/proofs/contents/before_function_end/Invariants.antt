use Rattle.manifest.proofs.Common.{◌≡◌, ℕ, ◌<◌, false, get_or, ends_function}
use Rattle.manifest.proofs.contents.before_function_end.Given as goal

abbrev pub invariant-loop-i : goal.invariant-loop-i
invariant-loop-i l = (k : ℕ) → k < l.i → ends_function (get_or l.text k 0) ≡ false
