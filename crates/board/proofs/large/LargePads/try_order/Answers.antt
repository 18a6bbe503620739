use Rattle.board.proofs.Common.{arith}
use Rattle.board.proofs.BestPadsLemmas.{improves_none, improves_twice}
use Rattle.board.proofs.GroupLemmas.{none_yet, no_better_on}
use Rattle.board.proofs.large.LargePads.try_order.Goals as goal

pub loop-done-init : goal.loop-done-init
loop-done-init g c = record {
  within = omega arith;
  improves = improves_none g.S.PadShape.covers c.args.self.now.pads.now c.args.hole.now c.args.best;
  below = none_yet g.S.PadShape.covers c.args.self.now.pads.now c.args.self.now.order.now c.args.hole.now 0 c.args.best;
}

pub loop-done-preserved : goal.loop-done-preserved
loop-done-preserved g c =
    let covers = g.S.PadShape.covers in
    let pads = c.args.self.now.pads.now in
    let order = c.args.self.now.order.now in
    let more = c.step-step.ensures.improves in
    record {
      within = c.step-step.ensures.within;
      improves = improves_twice covers pads c.args.hole.now c.args.best c.loop-done.held c.step-step.result.1 c.loop-done.invariant.improves more;
      below = no_better_on covers pads order c.args.hole.now 0 c.loop-done.done c.step-step.result.0 c.loop-done.held c.step-step.result.1 more c.loop-done.invariant.below c.step-step.ensures.below;
    }

pub returns-clause-below : goal.returns-clause-below
returns-clause-below g c = λ i from h. c.loop-done.invariant.below i from (omega (arith, h, c.loop-done-test.false))
