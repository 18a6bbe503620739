use Rattle.board.proofs.Common.{ℕ, ◌<◌, None, length, get_or, hole_at, AllImprove, AreNoBetter}
use Rattle.board.proofs.large.LargePads.try_all.Given as goal

-- the pads were tried at the holes so far
abbrev pub invariant-loop-k : goal.invariant-loop-k
invariant-loop-k g l = record {
  improves : AllImprove g.S.PadShape.covers l.self.pads.now l.holes l.initial.bests l.bests;
  below : (j : ℕ) → j < l.k → AreNoBetter g.S.PadShape.covers l.self.pads.now l.self.order.now 0 (length l.self.order.now) (hole_at l.holes j) (get_or l.bests j None);
}
