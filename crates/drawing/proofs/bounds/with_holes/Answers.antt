use Rattle.drawing.proofs.Common.{◌∙◌, ap, ap₂, hole_extent, joined_to}
use Rattle.ring_rules.specs.declared.finding.Drilled.{Drilled}
use Rattle.drawing.proofs.ExtentLemmas.{extent_more}
use Rattle.drawing.proofs.bounds.with_holes.Goals as goal

pub loop-drilled-preserved : goal.loop-drilled-preserved
loop-drilled-preserved c =
    c.joined_to-all.ensures
    ∙ (ap₂ joined_to c.loop-drilled.invariant (c.hole_extent.ensures ∙ ap (λ (d : Drilled). hole_extent d.hole) c.drilled-item.is)
    ∙ extent_more (λ (d : Drilled). hole_extent d.hole) c.args.before c.args.holes.now c.loop-drilled.drilled-index c.drilled-item.result c.loop-drilled-test.true)
