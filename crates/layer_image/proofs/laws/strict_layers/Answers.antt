use Rattle.layer_image.proofs.StrictReading.{strict_read}
use Rattle.layer_image.proofs.laws.strict_layers.Goals as goal

pub returns : goal.returns
returns c = strict_read
