use Rattle.std.proofs.Common.{◌≡◌, true, subst, sym, ◌∙◌}
use Rattle.std.proofs.lemmas.Bool.{false_from_ne_true}
use Rattle.pad_shapes.specs.Shapes.{GridDisc, disc_covers}
use Rattle.pad_shapes.proofs.ZonesLemmas.{disc_square_bound}
use Rattle.pad_shapes.proofs.disc.DiscPadShape.may_cover.Goals as goal

pub returns : goal.returns
returns c = λ missed p r less inside. false_from_ne_true _ (λ e.
    let fits = disc_square_bound (record { centre = c.self.inside.centre; radius = c.self.inside.radius }) p c.args.reach r c.distance_x-dx.result c.distance_y-dy.result less (subst (λ (s : GridDisc). disc_covers s p r ≡ true) (sym c.self.view_is) e) (c.distance_x-dx.ensures p inside) (c.distance_y-dy.ensures p inside) in
    let both = sym missed ∙ (c.is_step_within.ensures ∙ fits) in cc)
