use Rattle.layer_features.proofs.LegalWidePads.{legal_wide_pads}
use Rattle.layer_features.proofs.UniqueWidePads.{unique_wide_pads}
use Rattle.layer_features.proofs.laws.wide_pads.Goals as goal

pub returns : goal.returns
returns c = record { legal = legal_wide_pads; unique = unique_wide_pads }
