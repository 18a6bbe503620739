-- A centre deep enough inside is covered, whatever its distance from the rim.
use Rattle.std.proofs.Common.{◌≡◌, ℕ, ◌-◌, ◌||◌, ◌&&◌, nat_le, true, sym, ap, subst, ◌∙◌}
use Rattle.grid_units.specs.Points.{GridPoint}
use Rattle.pad_shapes.specs.Rounded.{GridRounded, is_deep_inside, is_near_rim, rounded_covers}
use Rattle.pad_shapes.proofs.rounded.Rounded.covers_reach.Goals as goal

covered_inside : (r : GridRounded) (c : GridPoint) (reach depth : ℕ) → depth ≡ reach - r.radius → is_deep_inside r depth c ≡ true → true ≡ rounded_covers r c reach
covered_inside r c reach depth e h =
    let deep : is_deep_inside r (reach - r.radius) c ≡ true = subst (λ n. is_deep_inside r n c ≡ true) e h in
    sym (ap (λ b. b || (nat_le reach r.radius && is_near_rim r (r.radius - reach) c)) deep)

pub returns-then-is_deep_inside : goal.returns-then-is_deep_inside
returns-then-is_deep_inside c =
    let inside = c.self.inside in
    subst (λ (s : GridRounded). true ≡ rounded_covers s c.args.centre c.args.reach) c.self.view_is
    (covered_inside (record { first = inside.first; others = inside.others.items; radius = inside.radius }) c.args.centre c.args.reach c.saturating_sub-depth.result c.saturating_sub-depth.ensures
    (ap (λ os. is_deep_inside (record { first = inside.first; others = os; radius = 0 }) c.saturating_sub-depth.result c.args.centre) (sym c.deref.ensures.value) ∙ sym c.is_deep_inside.ensures ∙ c.if-is_deep_inside.true))
