use Rattle.ring_rules.proofs.Common.{◌≡◌, inl, inr, ap, subst, ◌∙◌, arith, cases_lt, IsInZone, point_at}
use Rattle.ring_rules.proofs.tree.zone_of.Goals as goal

pub loop-i-preserved : goal.loop-i-preserved
loop-i-preserved c = λ k from below. elim (cases_lt k c.loop-i.i) [
  | inl less ↦ c.joined-zone.ensures.first (point_at c.args.spots.now k) (c.loop-i.invariant k from less)
  | inr more ↦
      let is : c.loop-i.i ≡ k = omega (arith, below, more) in
      c.joined-zone.ensures.second (point_at c.args.spots.now k) (subst (IsInZone c.zone_at.result) (c.point.ensures ∙ ap (point_at c.args.spots.now) is) c.zone_at.ensures)
]
