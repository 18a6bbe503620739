use Rattle.std.proofs.Common.{◌≡◌, ◌∙◌, ◌-ℤ◌, w64, sym}
use Rattle.std.proofs.lemmas.Int.{to_z-of_z}
use Rattle.grid_units.specs.Points.{GridPoint}
use Rattle.pad_shapes.specs.Rounded.{rounded_covers}
use Rattle.pad_shapes.proofs.MovedShapes.{covers-relative, relative}
use Rattle.pad_shapes.proofs.placed.covers_at.Goals as goal

pub returns : goal.returns
returns c =
    let o : GridPoint = record { x = c.args.x; y = c.args.y } in
    let there : c.to.result ≡ relative o c.args.hole = c.to.ensures ∙ (λ i. record { x = c.args.hole.x -ℤ to_z-of_z w64 c.args.x c.ranges.x i; y = c.args.hole.y -ℤ to_z-of_z w64 c.args.y c.ranges.y i }) in
    c.covers_reach.ensures ∙ (λ i. rounded_covers c.args.shape.now (there i) c.args.reach) ∙ sym (covers-relative o c.args.shape.now c.args.hole c.args.reach)
