use Rattle.std.proofs.Common.{◌∙◌, FitsSigned, w64, arith, subst}
use Rattle.std.proofs.lemmas.Int.{ints, to_z-of_z}
use Rattle.pad_shapes.specs.Placed.{moved_shape}
use Rattle.pad_shapes.specs.Rounded.{GridRounded}
use Rattle.pad_shapes.specs.Zones.{IsBoxOf}
use Rattle.pad_shapes.proofs.placed.PlacedRounded.bounds.Goals as goal

pub returns-clause-is : goal.returns-clause-is
returns-clause-is c =
    let inside = c.self.inside in
    let fits_x : FitsSigned w64 inside.x = omega (arith, ints, c.self.invariant.0) in
    let fits_y : FitsSigned w64 inside.y = omega (arith, ints, c.self.invariant.1) in
    subst (λ (s : GridRounded). IsBoxOf s c.bounds_at.result)
    ((λ i. moved_shape (record { x = to_z-of_z w64 inside.x fits_x i; y = to_z-of_z w64 inside.y fits_y i }) (c.get.ensures i)) ∙ c.self.view_is) c.bounds_at.ensures.is
