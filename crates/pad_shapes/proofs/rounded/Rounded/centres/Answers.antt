-- A covered centre lies deeper in the box of the corners and the radius than the reach.
use Rattle.std.proofs.Common.{◌≡◌, true, subst, sym, ap, ◌∙◌}
use Rattle.pad_shapes.specs.Rounded.{GridRounded, rounded_covers}
use Rattle.pad_shapes.specs.Inner.RoundedLaws.{rounded_bounds}
use Rattle.pad_shapes.proofs.EdgesLemmas.{zone_low, zone_high}
use Rattle.pad_shapes.proofs.rounded.Rounded.centres.Goals as goal

pub returns-clause-bound : goal.returns-clause-bound
returns-clause-bound c = λ p r less e.
    let inside = c.self.inside in
    let b = rounded_bounds (record { first = inside.first; others = inside.others.items; radius = inside.radius }) p c.args.reach r less (subst (λ (s : GridRounded). rounded_covers s p r ≡ true) (sym c.self.view_is) e) in
    let low = c.self.invariant.3 in
    let high = c.self.invariant.4 in
    record {
      left = zone_low c.x.result _ p.x c.args.reach inside.radius (c.x.ensures.value ∙ ap (λ v. v.x) low) c.x.ensures.in_range c.requires c.self.invariant.1 b.0.0;
      right = zone_high c.x-2.result _ p.x c.args.reach inside.radius (c.x-2.ensures.value ∙ ap (λ v. v.x) high) c.x-2.ensures.in_range c.requires c.self.invariant.1 b.0.1;
      bottom = zone_low c.y.result _ p.y c.args.reach inside.radius (c.y.ensures.value ∙ ap (λ v. v.y) low) c.y.ensures.in_range c.requires c.self.invariant.1 b.1.0;
      top = zone_high c.y-2.result _ p.y c.args.reach inside.radius (c.y-2.ensures.value ∙ ap (λ v. v.y) high) c.y-2.ensures.in_range c.requires c.self.invariant.1 b.1.1;
    }
