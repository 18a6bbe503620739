-- The reach fits between the least and the greatest x of what is covered with it.
use Rattle.std.proofs.Common.{◌≡◌, true, subst, sym, ap, ◌∙◌, inl, inr, le_refl}
use Rattle.grid_units.proofs.BoolLemmas.{either}
use Rattle.pad_shapes.specs.Rounded.{GridRounded, rounded_covers}
use Rattle.pad_shapes.specs.Inner.RoundedLaws.{rounded_bounds}
use Rattle.pad_shapes.proofs.EdgesLemmas.{beyond_half}
use Rattle.pad_shapes.proofs.rounded.Rounded.half_width.Goals as goal

pub returns-clause-bound : goal.returns-clause-bound
returns-clause-bound c = λ p reach more.
    let inside = c.self.inside in
    elim (either (rounded_covers c.args.self.now p reach)) [
      | inl covered ↦
          let b = rounded_bounds (record { first = inside.first; others = inside.others.items; radius = inside.radius }) p reach reach (le_refl reach) (subst (λ (s : GridRounded). rounded_covers s p reach ≡ true) (sym c.self.view_is) covered) in
          absurd (beyond_half c.x-2.result c.x.result _ _ p.x c.unsigned_abs.result inside.radius reach (c.x-2.ensures.value ∙ ap (λ v. v.x) c.self.invariant.3) (c.x.ensures.value ∙ ap (λ v. v.x) c.self.invariant.4)
          c.x-2.ensures.in_range c.x.ensures.in_range c.unsigned_abs.ensures.value more b.0.0 b.0.1)
      | inr not_covered ↦ not_covered
    ]
