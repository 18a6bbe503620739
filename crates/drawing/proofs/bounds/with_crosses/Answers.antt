use Rattle.drawing.proofs.Common.{◌∙◌, ℕ, List, [], ap₂, get_or, flat_map, fold, FeatureRow, cross_extent, joined_to}
use Rattle.drawing.proofs.ExtentLemmas.{layers_more}
use Rattle.drawing.proofs.bounds.with_crosses.Goals as goal

pub loop-file-preserved : goal.loop-file-preserved
loop-file-preserved c =
    let its : ℕ → List FeatureRow = λ file. get_or c.args.board.now.rows file [] in
    c.with_rows-all.ensures
    ∙ (ap₂ (λ all (rows : List FeatureRow). fold joined_to all (flat_map cross_extent rows)) c.loop-file.invariant c.rows_of.ensures
    ∙ layers_more (λ (file : ℕ). flat_map cross_extent (its file)) c.args.before c.args.files.now c.loop-file.file-index 0 c.loop-file-test.true)
