use Rattle.board.proofs.Common.{All, AreGroups}
use Rattle.board.proofs.large.levels_of.Given as goal

-- the groups of the levels so far are groups of the order
abbrev pub invariant-loop-size : goal.invariant-loop-size
invariant-loop-size g l = All (AreGroups g.S.PadShape.covers l.pads l.order) l.levels.items
