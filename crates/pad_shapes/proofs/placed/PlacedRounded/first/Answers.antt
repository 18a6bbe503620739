use Rattle.std.proofs.Common.{◌∙◌, FitsSigned, w64, arith, ap}
use Rattle.std.proofs.lemmas.Int.{ints, to_z-of_z}
use Rattle.pad_shapes.specs.Placed.{moved_point}
use Rattle.pad_shapes.specs.Rounded.{GridRounded}
use Rattle.pad_shapes.proofs.placed.PlacedRounded.first.Goals as goal

pub returns : goal.returns
returns c =
    let inside = c.self.inside in
    let fits_x : FitsSigned w64 inside.x = omega (arith, ints, c.self.invariant.0) in
    let fits_y : FitsSigned w64 inside.y = omega (arith, ints, c.self.invariant.1) in
    c.first_at.ensures ∙ (λ i. moved_point (record { x = to_z-of_z w64 inside.x fits_x i; y = to_z-of_z w64 inside.y fits_y i }) (ap (λ (s : GridRounded). s.first) c.get.ensures i)) ∙ ap (λ (s : GridRounded). s.first) c.self.view_is
