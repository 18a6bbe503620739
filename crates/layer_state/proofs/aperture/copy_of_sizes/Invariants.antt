use Rattle.layer_state.proofs.Common.{◌≡◌, take}
use Rattle.layer_state.proofs.aperture.copy_of_sizes.Given as goal

abbrev pub invariant-loop-size : goal.invariant-loop-size
invariant-loop-size l = l.copy ≡ take l.size-index l.sizes
