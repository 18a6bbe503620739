use Rattle.board.proofs.Common.{ℕ, ◌<◌, ◌≤◌, get_or, IsInGroup}
use Rattle.board.proofs.large.group_of.Given as goal

-- the pads so far are in the group
abbrev pub invariant-loop-i : goal.invariant-loop-i
invariant-loop-i g l = (j : ℕ) → l.start ≤ j → j < l.i → IsInGroup g.S.PadShape.covers l.pads (get_or l.order j 0) l.first l.hull
