use Rattle.macro_shapes.proofs.Common.{◌∙◌, w64, to_z-of_z, to_z, of_z, grid_point}
use Rattle.macro_shapes.proofs.GridLemmas.{grid_point_is}
use Rattle.macro_shapes.proofs.primitive.grid_point.Goals as goal

pub returns : goal.returns
returns c =
    grid_point_is c.new.result (to_z w64 (of_z w64 c.args.x)) (to_z w64 (of_z w64 c.args.y)) c.new.ensures.valid c.new.ensures.value
    ∙ (λ i. grid_point (to_z-of_z w64 c.args.x c.ranges.x i) (to_z-of_z w64 c.args.y c.ranges.y i))
