use Rattle.drawing.proofs.Common.{◌∙◌, ap, ap₂, joined_to, pad_extent}
use Rattle.drawing.proofs.ExtentLemmas.{extent_more}
use Rattle.drawing.proofs.bounds.with_pads.Goals as goal

pub loop-pad-preserved : goal.loop-pad-preserved
loop-pad-preserved c =
    c.joined_to-all.ensures
    ∙ (ap₂ joined_to c.loop-pad.invariant (c.pad_extent.ensures ∙ ap pad_extent c.pad-item.is)
    ∙ extent_more pad_extent c.args.before c.args.pads.now c.loop-pad.pad-index c.pad-item.result c.loop-pad-test.true)
