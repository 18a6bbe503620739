use Rattle.board.proofs.Common.{◌≡◌, ℕ, ◌<◌, inl, inr, length, get_or, sym, subst, ◌∙◌, arith, cases_lt, get_or_default, All-get_or, IsInGroup}
use Rattle.board.proofs.GroupLemmas.{in_wider, in_added}
use Rattle.board.proofs.large.group_of.Goals as goal

pub loop-i-preserved : goal.loop-i-preserved
loop-i-preserved g c = λ j from h. elim (cases_lt j c.loop-i.i) [
  | inl less ↦ in_wider g.S.PadShape.covers c.args.pads.now (get_or c.args.order.now j 0) c.loop-i.first c.min-first.result c.loop-i.hull c.hull_around-hull.result (omega (arith, c.min-first.ensures)) c.hull_around-hull.ensures.wider (c.loop-i.invariant j from less)
  | inr more ↦
      let is : c.loop-i.i ≡ j = omega (arith, h, more) in
      let inside : c.loop-i.i < length c.args.order.now = omega (arith, c.loop-i-test.true, c.requires.end) in
      let listed : get_or c.args.order.now c.loop-i.i 0 < length c.args.pads.now = All-get_or (λ k. k < length c.args.pads.now) c.args.order.now c.loop-i.i 0 inside c.requires.order in
      subst (λ (n : ℕ). IsInGroup g.S.PadShape.covers c.args.pads.now (get_or c.args.order.now n 0) c.min-first.result c.hull_around-hull.result) is
      (in_added g.S.PadShape.covers c.args.pads.now (get_or c.args.order.now c.loop-i.i 0) c.min-first.result c.index-pads-place.result c.hull_around-hull.result (omega (arith, c.min-first.ensures))
      (λ s. get_or_default c.args.pads.now (get_or c.args.order.now c.loop-i.i 0) s c.index-pads-place.result listed ∙ sym c.index-pads-place.is) c.hull_around-hull.ensures.pad)
]

pub returns : goal.returns
returns g c = record { end = c.requires.end; each = λ i from h. c.loop-i.invariant i from (omega (arith, h, c.loop-i-test.false)) }
