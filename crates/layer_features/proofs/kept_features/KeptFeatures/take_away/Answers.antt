-- All that is held is taken away, and counted as no pads.
use Rattle.layer_features.proofs.Common.{arith, refl}
use Rattle.layer_features.proofs.KeptFeaturesLemmas.{kept_gone}
use Rattle.layer_features.proofs.kept_features.KeptFeatures.take_away.Goals as goal

pub returns-clause-kept : goal.returns-clause-kept
returns-clause-kept c taken features h = kept_gone c.args.self.now _ taken features h (c.in_ok-self.ensures features h.counts) refl (omega (arith, c.len-self.ensures)) c.clear.ensures.items refl refl
