use Rattle.layer_features.proofs.Common.{◌≡◌, length}
use Rattle.layer_features.specs.Inner.Turns.{turns}
use Rattle.layer_features.proofs.turns.turns.Given as goal

abbrev pub invariant-loop-rest : goal.invariant-loop-rest
invariant-loop-rest l = turns l.left l.rest ≡ turns l.left l.run

abbrev pub decreases-loop-rest : goal.decreases-loop-rest
decreases-loop-rest l = length l.rest
