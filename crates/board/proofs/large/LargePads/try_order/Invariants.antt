use Rattle.board.proofs.Common.{◌-◌, ◌≤◌, length, Improves, AreNoBetter}
use Rattle.board.proofs.large.LargePads.try_order.Given as goal

-- the pads of the order so far were tried or passed over
abbrev pub invariant-loop-done : goal.invariant-loop-done
invariant-loop-done g l = record {
  within : l.done ≤ length l.self.order.now;
  improves : Improves g.S.PadShape.covers l.self.pads.now l.hole l.fn.best l.held;
  below : AreNoBetter g.S.PadShape.covers l.self.pads.now l.self.order.now 0 l.done l.hole l.held;
}

abbrev pub decreases-loop-done : goal.decreases-loop-done
decreases-loop-done g l = length l.self.order.now - l.done
