use Rattle.drawing.proofs.Common.{◌≡◌, map, take, fold, joined_to, pad_extent}
use Rattle.drawing.proofs.bounds.with_pads.Given as goal

abbrev pub invariant-loop-pad : goal.invariant-loop-pad
invariant-loop-pad l = l.all ≡ fold joined_to l.fn.before (map pad_extent (take l.pad-index l.pads))
