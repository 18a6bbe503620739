use Rattle.drawing.proofs.Common.{◌∙◌, ap₂, fold, Drawn, edge_extents, joined_to}
use Rattle.drawing.proofs.ExtentLemmas.{layers_more}
use Rattle.drawing.proofs.edge_bounds.with_edge.Goals as goal

pub loop-part-preserved : goal.loop-part-preserved
loop-part-preserved c =
    c.with_part-all.ensures
    ∙ (ap₂ (λ all (part : Drawn). fold joined_to all (edge_extents part)) c.loop-part.invariant c.part-item.is
    ∙ layers_more edge_extents c.args.before c.args.outline.now c.loop-part.part-index c.part-item.result c.loop-part-test.true)
