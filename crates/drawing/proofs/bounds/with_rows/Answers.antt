use Rattle.drawing.proofs.Common.{◌∙◌, ap₂, fold, FeatureRow, cross_extent, joined_to}
use Rattle.drawing.proofs.ExtentLemmas.{layers_more}
use Rattle.drawing.proofs.bounds.with_rows.Goals as goal

pub loop-row-preserved : goal.loop-row-preserved
loop-row-preserved c =
    c.with_row-all.ensures
    ∙ (ap₂ (λ all (row : FeatureRow). fold joined_to all (cross_extent row)) c.loop-row.invariant c.row-item.is
    ∙ layers_more cross_extent c.args.before c.args.rows.now c.loop-row.row-index c.row-item.result c.loop-row-test.true)
