use Rattle.macro_shapes.proofs.ShapeLemmas.{shape_is_in_primitives}
use Rattle.macro_shapes.proofs.laws.shape_is_in_primitives.Goals as goal

pub returns : goal.returns
returns c = shape_is_in_primitives
