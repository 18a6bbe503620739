use Rattle.ring_rules.proofs.TriedPads.{layer_by_coverings}
use Rattle.ring_rules.proofs.laws.pads_count_by_coverings.Goals as goal

pub returns : goal.returns
returns g c = layer_by_coverings g.S.PadShape.covers
