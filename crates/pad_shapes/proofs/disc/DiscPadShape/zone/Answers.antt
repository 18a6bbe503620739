use Rattle.std.proofs.Common.{◌≡◌, true, subst, sym}
use Rattle.pad_shapes.specs.Shapes.{GridDisc, disc_covers}
use Rattle.pad_shapes.proofs.ZonesLemmas.{disc_inset}
use Rattle.pad_shapes.proofs.disc.DiscPadShape.zone.Goals as goal

pub returns : goal.returns
returns c = λ p r less e.
    c.inset_zone.ensures p (disc_inset (record { centre = c.self.inside.centre; radius = c.self.inside.radius }) p c.args.reach r less (subst (λ (s : GridDisc). disc_covers s p r ≡ true) (sym c.self.view_is) e))
