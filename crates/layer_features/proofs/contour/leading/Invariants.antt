use Rattle.layer_features.proofs.Common.{◌≡◌, true, ℕ, ◌<◌, get_or, is_move_or_none}
use Rattle.layer_features.specs.declared.part.Part.TheVariants as part
use Rattle.layer_features.proofs.contour.leading.Given as goal

abbrev pub invariant-loop-i : goal.invariant-loop-i
invariant-loop-i l = (k : ℕ) → k < l.i → is_move_or_none l.moves (get_or l.parts k part.Other) ≡ true
