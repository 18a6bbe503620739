use Rattle.board.proofs.Common.{◌≡◌, ℕ, ◌<◌, Option, None, length, get_or, refl, subst, ◌∙◌, arith, get_or_default, All-get_or, default_hole, hole_at, Drilled, IsTriedAt, BestPad}
use Rattle.board.proofs.BestPadsLemmas.{all_improve_none, all_improve_twice, all_improve_at, no_better_at_more}
use Rattle.board.proofs.bests.PadsOnBoard.try_near.Goals as goal

pub loop-hole-init : goal.loop-hole-init
loop-hole-init g c = record { improves = all_improve_none g.S.PadShape.covers c.args.self.now.pads.now c.args.self.now.holes.now c.args.bests.now; below = λ i h. absurd (omega (arith, h)) }

pub loop-hole-preserved : goal.loop-hole-preserved
loop-hole-preserved g c =
    let covers = g.S.PadShape.covers in
    let pads = c.args.self.now.pads.now in
    let holes = c.args.self.now.holes.now in
    let p : ℕ = get_or c.args.near.now c.loop-hole.hole-index 0 in
    let listed : get_or c.args.near.now c.loop-hole.hole-index 0 < length c.args.self.now.holes.now = All-get_or (λ k. k < length c.args.self.now.holes.now) c.args.near.now c.loop-hole.hole-index 0 c.loop-hole-test.true c.requires.near in
    let size : length c.loop-hole.bests ≡ length c.args.bests.now = c.loop-hole.invariant.improves.size in
    let inside : get_or c.args.near.now c.loop-hole.hole-index 0 < length c.loop-hole.bests = omega (arith, size, c.requires.size, listed) in
    let step : IsTriedAt g.S.PadShape.covers c.args.self.now.pads.now c.args.place (hole_at c.args.self.now.holes.now p) (get_or c.loop-hole.bests p None) c.better.result =
    subst (λ (d : Drilled). IsTriedAt g.S.PadShape.covers c.args.self.now.pads.now c.args.place d.hole (get_or c.loop-hole.bests p None) c.better.result)
    (get_or_default c.args.self.now.holes.now p c.index-self-hole.result default_hole listed)
    (subst (λ (b : Option BestPad). IsTriedAt g.S.PadShape.covers c.args.self.now.pads.now c.args.place (get_or c.args.self.now.holes.now p c.index-self-hole.result).hole b c.better.result)
    (c.index-bests-hole.is ∙ get_or_default c.loop-hole.bests p c.index-bests-hole.result None inside)
    c.better.ensures) in
    record {
      improves = all_improve_twice covers pads holes c.args.bests.now c.loop-hole.bests _ c.loop-hole.invariant.improves (all_improve_at covers pads holes c.loop-hole.bests p c.better.result inside step.improves);
      below = no_better_at_more covers pads holes c.args.place p c.better.result c.args.near.now c.loop-hole.hole-index c.loop-hole.bests inside refl step c.loop-hole.invariant.below;
    }

pub returns-clause-below : goal.returns-clause-below
returns-clause-below g c = λ i h. c.loop-hole.invariant.below i (omega (arith, h, c.loop-hole-test.false))
