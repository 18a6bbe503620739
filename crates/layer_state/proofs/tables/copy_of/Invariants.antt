use Rattle.layer_state.proofs.Common.{◌≡◌, take}
use Rattle.layer_state.proofs.tables.copy_of.Given as goal

abbrev pub invariant-loop-text : goal.invariant-loop-text
invariant-loop-text l = l.copies.items ≡ take l.text-index l.texts
