use Rattle.pad_shapes.specs.Inner.RoundedSets.{greater_radius_holds}
use Rattle.pad_shapes.proofs.laws.greater_radius_holds.Goals as goal

pub returns : goal.returns
returns c = greater_radius_holds
