use Rattle.picture.proofs.Common.{◌≡◌, take, rounded_pads}
use Rattle.picture.proofs.scene.rounded_pads.Given as goal

abbrev pub invariant-loop-pad : goal.invariant-loop-pad
invariant-loop-pad l = l.pads.items ≡ rounded_pads (take l.pad-index l.all)
