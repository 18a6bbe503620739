use Rattle.layer_features.proofs.ContourLemmas.{contours_inside}
use Rattle.layer_features.proofs.laws.contours_are_inside_edges.Goals as goal

pub returns : goal.returns
returns c = contours_inside c.polygon_is_left_of_edges.ensures
