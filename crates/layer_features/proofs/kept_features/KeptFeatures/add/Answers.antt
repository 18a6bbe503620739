-- The flash or the contour is held and counted.
use Rattle.layer_features.proofs.KeptFeaturesLemmas.{kept_more}
use Rattle.layer_features.proofs.kept_features.KeptFeatures.add.Goals as goal

pub returns-clause-kept : goal.returns-clause-kept
returns-clause-kept c taken features h = kept_more c.args.self.now _ taken features c.args.feature h (record {
  features = c.in_ok-hold.ensures.features;
  pads = c.in_ok-hold.ensures.pads;
  rows = c.hold.ensures.rows;
  cleared = c.hold.ensures.cleared;
  forgets = c.hold.ensures.forgets;
}) (c.in_ok-self.ensures features h.counts)
