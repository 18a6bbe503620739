use Rattle.manifest.proofs.Common.{◌≡◌, ◌<◌, ◌+◌, ℕ, get_or}
use Rattle.manifest.proofs.stack.ascend_from_one.Given as goal

abbrev pub invariant-loop-index : goal.invariant-loop-index
invariant-loop-index l = (i d : ℕ) → i < l.index → get_or l.numbers i d ≡ 1 + i
