use Rattle.std.proofs.Common.{◌≡◌, true, subst, sym}
use Rattle.pad_shapes.specs.Shapes.{GridObround, obround_covers}
use Rattle.pad_shapes.proofs.ZonesLemmas.{obround_inset}
use Rattle.pad_shapes.proofs.obround.ObroundPadShape.zone.Goals as goal

pub returns : goal.returns
returns c = λ p r less e.
    c.inset_zone.ensures p (obround_inset (record { centre = c.self.inside.centre; half_x = c.self.inside.half_x; half_y = c.self.inside.half_y }) p c.args.reach r less (subst (λ (s : GridObround). obround_covers s p r ≡ true) (sym c.self.view_is) e))
