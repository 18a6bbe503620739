use Rattle.pad_shapes.specs.Inner.RoundedLaws.{covers_less}
use Rattle.pad_shapes.proofs.laws.rounded_covers_less.Goals as goal

pub returns : goal.returns
returns c = covers_less
