use Rattle.board.proofs.Common.{IsNearestForAll}
use Rattle.board.proofs.nearest.nearest_for_all.Given as goal

-- the holes so far have asked
abbrev pub invariant-loop-place : goal.invariant-loop-place
invariant-loop-place l = IsNearestForAll l.holes l.place l.nearest
