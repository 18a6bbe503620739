use Rattle.board.proofs.Common.{Improves, AreNoBetter}
use Rattle.board.proofs.large.LargePads.try_run.Given as goal

-- the pads so far were tried
abbrev pub invariant-loop-i : goal.invariant-loop-i
invariant-loop-i g l = record {
  improves : Improves g.S.PadShape.covers l.self.pads.now l.hole l.fn.best l.held;
  below : AreNoBetter g.S.PadShape.covers l.self.pads.now l.self.order.now l.start l.i l.hole l.held;
}
