use Rattle.layer_features.proofs.PointsLemmas.{flashed_in_primitives}
use Rattle.layer_features.proofs.laws.flashed_shapes_are_in_primitives.Goals as goal

pub returns : goal.returns
returns c = flashed_in_primitives c.shape_is_in_primitives.ensures
