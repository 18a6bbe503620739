use Rattle.board.proofs.Common.{◌≡◌, ◌<◌, None, Option, length, get_or, subst, ◌∙◌, arith, get_or_default, hole_at, default_hole, Drilled, Improves, AreNoBetter, BestPad}
use Rattle.board.proofs.BestPadsLemmas.{all_improve_none, all_improve_twice, all_improve_at}
use Rattle.board.proofs.GroupLemmas.{tried_at_more}
use Rattle.board.proofs.large.LargePads.try_all.Goals as goal

pub loop-k-init : goal.loop-k-init
loop-k-init g c = record { improves = all_improve_none g.S.PadShape.covers c.args.self.now.pads.now c.args.holes.now c.args.bests.now; below = λ j h. absurd (omega (arith, h)) }

pub loop-k-preserved : goal.loop-k-preserved
loop-k-preserved g c =
    let covers = g.S.PadShape.covers in
    let pads = c.args.self.now.pads.now in
    let order = c.args.self.now.order.now in
    let holes = c.args.holes.now in
    let size : length c.loop-k.bests ≡ length c.args.bests.now = c.loop-k.invariant.improves.size in
    let listed : c.loop-k.k < length c.args.holes.now = c.loop-k-test.true in
    let inside : c.loop-k.k < length c.loop-k.bests = omega (arith, size, c.requires.size, listed) in
    let improves : Improves g.S.PadShape.covers c.args.self.now.pads.now (hole_at c.args.holes.now c.loop-k.k) (get_or c.loop-k.bests c.loop-k.k None) c.try_guess-best.result =
    subst (λ (d : Drilled). Improves g.S.PadShape.covers c.args.self.now.pads.now d.hole (get_or c.loop-k.bests c.loop-k.k None) c.try_guess-best.result)
    (get_or_default c.args.holes.now c.loop-k.k c.index-holes-k.result default_hole listed)
    (subst (λ (b : Option BestPad). Improves g.S.PadShape.covers c.args.self.now.pads.now (get_or c.args.holes.now c.loop-k.k c.index-holes-k.result).hole b c.try_guess-best.result)
    (c.index-bests-k.is ∙ get_or_default c.loop-k.bests c.loop-k.k c.index-bests-k.result None inside)
    c.try_guess-best.ensures.improves) in
    let below : AreNoBetter g.S.PadShape.covers c.args.self.now.pads.now c.args.self.now.order.now 0 (length c.args.self.now.order.now) (hole_at c.args.holes.now c.loop-k.k) c.try_guess-best.result =
    subst (λ (d : Drilled). AreNoBetter g.S.PadShape.covers c.args.self.now.pads.now c.args.self.now.order.now 0 (length c.args.self.now.order.now) d.hole c.try_guess-best.result)
    (get_or_default c.args.holes.now c.loop-k.k c.index-holes-k.result default_hole listed) c.try_guess-best.ensures.below in
    record {
      improves = all_improve_twice covers pads holes c.args.bests.now c.loop-k.bests _ c.loop-k.invariant.improves (all_improve_at covers pads holes c.loop-k.bests c.loop-k.k c.try_guess-best.result inside improves);
      below = tried_at_more covers pads order holes c.loop-k.bests c.loop-k.k c.try_guess-best.result inside improves below c.loop-k.invariant.below;
    }

pub returns-clause-below : goal.returns-clause-below
returns-clause-below g c = λ k h. c.loop-k.invariant.below k (omega (arith, h, c.loop-k-test.false))
