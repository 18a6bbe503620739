use Rattle.layer_features.proofs.UnclearedPositions.{uncleared_positions}
use Rattle.layer_features.proofs.laws.uncleared_positions.Goals as goal

pub returns : goal.returns
returns c = uncleared_positions
