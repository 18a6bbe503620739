use Rattle.std.proofs.Common.{◌∙◌, FitsSigned, w64, arith, subst}
use Rattle.std.proofs.lemmas.Int.{ints, to_z-of_z}
use Rattle.pad_shapes.specs.Placed.{moved_shape}
use Rattle.pad_shapes.specs.Rounded.{GridRounded, rounded_covers}
use Rattle.pad_shapes.specs.Zones.{BoundsCentres}
use Rattle.pad_shapes.proofs.placed.PlacedRounded.centres.Goals as goal

pub returns : goal.returns
returns c =
    let inside = c.self.inside in
    let fits_x : FitsSigned w64 inside.x = omega (arith, ints, c.self.invariant.0) in
    let fits_y : FitsSigned w64 inside.y = omega (arith, ints, c.self.invariant.1) in
    subst (λ (s : GridRounded). BoundsCentres rounded_covers s c.args.reach c.centres_at.result)
    ((λ i. moved_shape (record { x = to_z-of_z w64 inside.x fits_x i; y = to_z-of_z w64 inside.y fits_y i }) (c.get.ensures i)) ∙ c.self.view_is) c.centres_at.ensures
