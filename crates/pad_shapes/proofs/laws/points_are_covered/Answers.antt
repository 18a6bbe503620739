use Rattle.pad_shapes.proofs.PartsLemmas.{points_are_covered}
use Rattle.pad_shapes.proofs.laws.points_are_covered.Goals as goal

pub returns : goal.returns
returns c = points_are_covered
