use Rattle.layer_features.proofs.Common.{refl}
use Rattle.layer_features.proofs.KeptFeaturesLemmas.{counts_gone}
use Rattle.layer_features.proofs.counts.FeatureCounts.taken_away.Goals as goal

pub returns : goal.returns
returns c features h = counts_gone c.args.self (record { flashed = 0; contours = 0; other = c.in_ok-other.other }) features h refl refl c.in_ok-other.ensures
