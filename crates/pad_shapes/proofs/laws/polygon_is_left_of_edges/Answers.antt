use Rattle.pad_shapes.specs.Inner.RoundedSets.{polygon_is_left_of_edges}
use Rattle.pad_shapes.proofs.laws.polygon_is_left_of_edges.Goals as goal

pub returns : goal.returns
returns c = polygon_is_left_of_edges
