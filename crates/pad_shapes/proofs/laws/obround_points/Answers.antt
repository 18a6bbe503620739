use Rattle.pad_shapes.proofs.ObroundLemmas.{obround_is_rectangle_and_discs}
use Rattle.pad_shapes.proofs.laws.obround_points.Goals as goal

pub returns : goal.returns
returns c = obround_is_rectangle_and_discs
