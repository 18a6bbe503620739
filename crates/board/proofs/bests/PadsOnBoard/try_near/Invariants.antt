use Rattle.board.proofs.Common.{AllImprove, IsNoBetterAt}
use Rattle.board.proofs.bests.PadsOnBoard.try_near.Given as goal

-- the pad was tried at the holes so far
abbrev pub invariant-loop-hole : goal.invariant-loop-hole
invariant-loop-hole g l = record {
  improves : AllImprove g.S.PadShape.covers l.self.pads.now l.self.holes.now l.initial.bests l.bests;
  below : IsNoBetterAt g.S.PadShape.covers l.self.pads.now l.place l.self.holes.now l.near l.hole-index l.bests;
}
