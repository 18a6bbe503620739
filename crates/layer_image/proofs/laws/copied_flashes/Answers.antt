use Rattle.layer_image.proofs.LegalPads.{flashes_are_copies}
use Rattle.layer_image.proofs.laws.copied_flashes.Goals as goal

pub returns : goal.returns
returns c = flashes_are_copies
