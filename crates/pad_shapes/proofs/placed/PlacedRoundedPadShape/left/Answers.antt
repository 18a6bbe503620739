use Rattle.std.proofs.Common.{rules, ◌∙◌, FitsSigned, w64, arith, ap}
use Rattle.std.proofs.lemmas.Int.{ints, to_z-of_z}
use Rattle.pad_shapes.specs.Placed.{moved_shape}
use Rattle.pad_shapes.specs.Rounded.{rounded_left}
use Rattle.pad_shapes.proofs.placed.PlacedRoundedPadShape.left.Goals as goal

pub returns : goal.returns
returns c =
    let inside = c.self.inside in
    let fits : FitsSigned w64 inside.x = omega (arith, ints, c.self.invariant.0) in
    let fits_result : FitsSigned w64 c.left_at.result = search rules in
    to_z-of_z w64 c.left_at.result fits_result ∙ c.left_at.ensures inside.y ∙ (λ i. rounded_left (moved_shape (record { x = to_z-of_z w64 inside.x fits i; y = inside.y }) (c.get.ensures i))) ∙ ap rounded_left c.self.view_is
