use Rattle.ring_rules.proofs.Common.{◌≡◌, inl, inr, sym, ap, subst, ◌∙◌, arith, cases_lt, get_or_default, GridPoint, IsInZone, default_hole, entry_at, Drilled}
use Rattle.ring_rules.proofs.layout.entry_zone.Goals as goal

pub loop-drilled-preserved : goal.loop-drilled-preserved
loop-drilled-preserved c = λ k h. elim (cases_lt k c.loop-drilled.drilled-index) [
  | inl less ↦ c.joined-zone.ensures.first (entry_at c.args.holes.now k) (c.loop-drilled.invariant k less)
  | inr more ↦
      let is : k ≡ c.loop-drilled.drilled-index = omega (arith, h, more) in
      let here : c.from.result ≡ entry_at c.args.holes.now k =
      c.from.ensures ∙ (ap (λ (d : Drilled). d.hole.from) (c.drilled-item.is ∙ get_or_default c.args.holes.now c.loop-drilled.drilled-index c.drilled-item.result default_hole c.loop-drilled-test.true) ∙ ap (entry_at c.args.holes.now) (sym is)) in
      c.joined-zone.ensures.second (entry_at c.args.holes.now k) (subst (λ (p : GridPoint). IsInZone c.zone_at.result p) here c.zone_at.ensures)
]
