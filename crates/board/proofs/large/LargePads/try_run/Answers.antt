use Rattle.board.proofs.Common.{arith}
use Rattle.board.proofs.BestPadsLemmas.{improves_none, improves_twice}
use Rattle.board.proofs.GroupLemmas.{none_yet, no_better_on, one_no_better}
use Rattle.board.proofs.large.LargePads.try_run.Goals as goal

pub loop-i-init : goal.loop-i-init
loop-i-init g c = record {
  improves = improves_none g.S.PadShape.covers c.args.self.now.pads.now c.args.hole.now c.args.best;
  below = none_yet g.S.PadShape.covers c.args.self.now.pads.now c.args.self.now.order.now c.args.hole.now c.args.start c.args.best;
}

pub loop-i-preserved : goal.loop-i-preserved
loop-i-preserved g c =
    let covers = g.S.PadShape.covers in
    let pads = c.args.self.now.pads.now in
    let order = c.args.self.now.order.now in
    let step = c.better-held.ensures in
    record {
      improves = improves_twice covers pads c.args.hole.now c.args.best c.loop-i.held c.better-held.result c.loop-i.invariant.improves step.improves;
      below = no_better_on covers pads order c.args.hole.now c.args.start c.loop-i.i _ c.loop-i.held c.better-held.result step.improves c.loop-i.invariant.below (one_no_better covers pads order c.args.hole.now c.loop-i.i c.better-held.result step.below);
    }

pub returns-clause-below : goal.returns-clause-below
returns-clause-below g c = λ i from h. c.loop-i.invariant.below i from (omega (arith, h, c.loop-i-test.false))
