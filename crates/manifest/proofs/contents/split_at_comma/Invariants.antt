use Rattle.manifest.proofs.Common.{◌≡◌, ℕ, ◌<◌, false, get_or, is_comma}
use Rattle.manifest.proofs.contents.split_at_comma.Given as goal

abbrev pub invariant-loop-i : goal.invariant-loop-i
invariant-loop-i l = (k : ℕ) → k < l.i → is_comma (get_or l.text k 0) ≡ false
