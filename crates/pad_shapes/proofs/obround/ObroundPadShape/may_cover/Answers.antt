use Rattle.std.proofs.Common.{◌≡◌, true, ap, subst, sym, ◌∙◌}
use Rattle.std.proofs.lemmas.Bool.{false_from_ne_true}
use Rattle.pad_shapes.specs.Shapes.{GridObround, end_radius, obround_covers}
use Rattle.pad_shapes.proofs.ZonesLemmas.{obround_square_bound}
use Rattle.pad_shapes.proofs.obround.ObroundPadShape.may_cover.Goals as goal

pub returns : goal.returns
returns c = λ missed p r less inside. false_from_ne_true _ (λ e.
    let fits = obround_square_bound (record { centre = c.self.inside.centre; half_x = c.self.inside.half_x; half_y = c.self.inside.half_y }) p c.args.reach r c.distance_x-dx.result c.distance_y-dy.result c.end_radius-radius.result c.saturating_sub-past_x.result c.saturating_sub-past_y.result less (subst (λ (s : GridObround). obround_covers s p r ≡ true) (sym c.self.view_is) e) (c.distance_x-dx.ensures p inside) (c.distance_y-dy.ensures p inside)
    (c.end_radius-radius.ensures.value ∙ ap end_radius (sym c.self.view_is)) c.saturating_sub-past_x.ensures c.saturating_sub-past_y.ensures in
    let both = sym missed ∙ (c.is_step_within.ensures ∙ fits) in cc)
