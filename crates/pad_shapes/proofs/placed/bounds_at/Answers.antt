use Rattle.std.proofs.Common.{◌≤◌, ◌∙◌, ap, arith}
use Rattle.std.proofs.lemmas.Int.{ints}
use Rattle.grid_units.specs.Points.{GridPoint}
use Rattle.pad_shapes.specs.Placed.{moved_shape}
use Rattle.pad_shapes.proofs.EdgesLemmas.{moved_greatest, moved_least}
use Rattle.pad_shapes.proofs.MovedShapes.{bottom-moved, left-moved, right-moved, top-moved}
use Rattle.pad_shapes.proofs.PlacedLemmas.{box_within}
use Rattle.pad_shapes.proofs.placed.bounds_at.Goals as goal

pub returns-clause-is : goal.returns-clause-is
returns-clause-is c =
    let o : GridPoint = record { x = c.args.x; y = c.args.y } in
    let s = c.args.shape.now in
    let range = c.radius-radius.ensures.in_range in
    let radius = c.radius-radius.ensures.value in
    record {
      left = moved_least c.args.x c.x.result _ c.radius-radius.result _ c.requires.x c.x.ensures.in_range range (c.x.ensures.value ∙ ap (λ v. v.x) c.low-low.ensures) radius ∙ left-moved o s;
      right = moved_greatest c.args.x c.x-2.result _ c.radius-radius.result _ c.requires.x c.x-2.ensures.in_range range (c.x-2.ensures.value ∙ ap (λ v. v.x) c.high-high.ensures) radius ∙ right-moved o s;
      bottom = moved_least c.args.y c.y.result _ c.radius-radius.result _ c.requires.y c.y.ensures.in_range range (c.y.ensures.value ∙ ap (λ v. v.y) c.low-low.ensures) radius ∙ bottom-moved o s;
      top = moved_greatest c.args.y c.y-2.result _ c.radius-radius.result _ c.requires.y c.y-2.ensures.in_range range (c.y-2.ensures.value ∙ ap (λ v. v.y) c.high-high.ensures) radius ∙ top-moved o s;
    }

pub returns-clause-in_range : goal.returns-clause-in_range
returns-clause-in_range c =
    let range = c.radius-radius.ensures.in_range in
    let small : c.args.shape.now.radius ≤ 5000000000000 = omega (arith, ints, range.0, range.1, c.radius-radius.ensures.value) in
    box_within (moved_shape (record { x = c.args.x; y = c.args.y }) c.args.shape.now) _ c.requires.near small (returns-clause-is c)
