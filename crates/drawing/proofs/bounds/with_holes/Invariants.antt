use Rattle.drawing.proofs.Common.{◌≡◌, map, take, fold, hole_extent, joined_to}
use Rattle.drawing.proofs.bounds.with_holes.Given as goal

abbrev pub invariant-loop-drilled : goal.invariant-loop-drilled
invariant-loop-drilled l = l.all ≡ fold joined_to l.fn.before (map (λ drilled. hole_extent drilled.hole) (take l.drilled-index l.holes))
