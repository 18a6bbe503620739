use Rattle.pad_shapes.specs.Inner.RoundedSets.{one_corner_is_disc, one_corner_covers}
use Rattle.pad_shapes.proofs.laws.one_corner_is_disc.Goals as goal

pub returns-clause-points : goal.returns-clause-points
returns-clause-points c = one_corner_is_disc

pub returns-clause-covers : goal.returns-clause-covers
returns-clause-covers c = one_corner_covers
