use Rattle.board.proofs.Common.{IsNearestAmong}
use Rattle.board.proofs.nearest.nearest_among.Given as goal

-- the hole was tried with those at the places so far
abbrev pub invariant-loop-other : goal.invariant-loop-other
invariant-loop-other l = IsNearestAmong l.holes l.place l.near l.other-index l.fn.best l.nearest
