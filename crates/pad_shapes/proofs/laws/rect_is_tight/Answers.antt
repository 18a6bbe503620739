use Rattle.pad_shapes.specs.Inner.ShapeLaws.{rect_is_tight}
use Rattle.pad_shapes.proofs.laws.rect_is_tight.Goals as goal

pub returns : goal.returns
returns c = rect_is_tight
