use Rattle.macro_shapes.proofs.Common.{◌≡◌, length, are_different}
use Rattle.macro_shapes.proofs.outline.are_different.Given as goal

abbrev pub invariant-loop-left : goal.invariant-loop-left
invariant-loop-left l = are_different l.left ≡ are_different l.points

abbrev pub decreases-loop-left : goal.decreases-loop-left
decreases-loop-left l = length l.left
