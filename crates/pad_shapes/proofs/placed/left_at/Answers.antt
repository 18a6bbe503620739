use Rattle.std.proofs.Common.{◌∙◌, ap}
use Rattle.pad_shapes.proofs.EdgesLemmas.{moved_least}
use Rattle.pad_shapes.proofs.MovedShapes.{left-moved}
use Rattle.pad_shapes.proofs.placed.left_at.Goals as goal

pub returns : goal.returns
returns c y =
    moved_least c.args.x c.x.result _ c.radius.result _ c.requires c.x.ensures.in_range c.radius.ensures.in_range (c.x.ensures.value ∙ ap (λ v. v.x) c.low.ensures) c.radius.ensures.value
    ∙ left-moved (record { x = c.args.x; y = y }) c.args.shape.now
