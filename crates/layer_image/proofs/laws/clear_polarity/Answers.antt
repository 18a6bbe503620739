use Rattle.layer_image.proofs.Common.{refl, first_broken, Strict, Wide}
use Rattle.layer_image.proofs.laws.clear_polarity.Goals as goal

pub returns : goal.returns
unfolding first_broken
returns c Strict before = refl
returns c Wide before = refl
