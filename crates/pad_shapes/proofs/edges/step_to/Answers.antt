use Rattle.pad_shapes.proofs.EdgesLemmas.{far_difference}
use Rattle.pad_shapes.proofs.edges.step_to.Goals as goal

pub returns-clause-value : goal.returns-clause-value
returns-clause-value c = λ i. (
  far_difference c.x.result c.x-2.result _ _ c.x.ensures.value c.x-2.ensures.value c.x.ensures.in_range c.x-2.ensures.in_range i,
  far_difference c.y.result c.y-2.result _ _ c.y.ensures.value c.y-2.ensures.value c.y.ensures.in_range c.y-2.ensures.in_range i,
)
