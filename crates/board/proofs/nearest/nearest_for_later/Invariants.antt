use Rattle.board.proofs.Common.{IsNearestForLater}
use Rattle.board.proofs.nearest.nearest_for_later.Given as goal

-- the later holes so far have asked
abbrev pub invariant-loop-place : goal.invariant-loop-place
invariant-loop-place l = IsNearestForLater l.holes l.prefix.count l.place l.best l.nearest
