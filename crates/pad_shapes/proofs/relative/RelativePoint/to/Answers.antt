use Rattle.pad_shapes.proofs.EdgesLemmas.{offset_difference}
use Rattle.pad_shapes.proofs.relative.RelativePoint.to.Goals as goal

pub returns : goal.returns
returns c = λ i. record {
  x = offset_difference c.x.result c.args.x c.args.point.x c.x.ensures.value c.x.ensures.in_range c.requires.x i;
  y = offset_difference c.y.result c.args.y c.args.point.y c.y.ensures.value c.y.ensures.in_range c.requires.y i;
}
