use Rattle.board.proofs.Common.{◌-◌, length, All, IsGroup}
use Rattle.board.proofs.large.level_of.Given as goal

-- the groups so far are groups of the order
abbrev pub invariant-loop-start : goal.invariant-loop-start
invariant-loop-start g l = All (IsGroup g.S.PadShape.covers l.pads l.order) l.groups.items

abbrev pub decreases-loop-start : goal.decreases-loop-start
decreases-loop-start g l = length l.order - l.start
