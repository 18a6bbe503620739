use Rattle.layer_image.proofs.FlashedPads.{flashed_pads}
use Rattle.layer_image.proofs.LegalPads.{layer_pads, legal_pads}
use Rattle.layer_image.proofs.UniquePads.{unique_pads}
use Rattle.layer_image.proofs.laws.flashed_pads.Goals as goal

pub returns : goal.returns
returns c = record { legal = legal_pads; layer = layer_pads; unique = unique_pads; each = flashed_pads }
