use Rattle.picture.proofs.Common.{◌≡◌, take, plain_pads}
use Rattle.picture.proofs.scene.plain_pads.Given as goal

abbrev pub invariant-loop-pad : goal.invariant-loop-pad
invariant-loop-pad l = l.pads.items ≡ plain_pads (take l.pad-index l.all)
