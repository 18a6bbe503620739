use Rattle.gerber_text.proofs.Common.{◌≡◌, ◌+◌, length, take}
use Rattle.gerber_text.proofs.PieceLemmas.{starred}
use Rattle.gerber_text.proofs.sayable_items.fit_in.Given as goal

abbrev pub invariant-loop-text : goal.invariant-loop-text
invariant-loop-text l = l.room ≡ l.left + length (starred (take l.text-index l.texts))
