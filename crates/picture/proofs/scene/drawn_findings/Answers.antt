use Rattle.picture.proofs.Common.{◌∙◌, ap, flat_map, enumerated_all, drawn_finding}
use Rattle.picture.proofs.Gathered.{placed_more}
use Rattle.picture.proofs.scene.drawn_findings.Goals as goal

pub loop-place-preserved : goal.loop-place-preserved
loop-place-preserved c =
    placed_more (drawn_finding c.args.layer c.args.holes.now) _ _ c.args.findings.now c.loop-place.place _ c.loop-place-test.true c.loop-place.invariant c.in_ok-push_lack.ensures

pub returns : goal.returns
returns c = c.loop-place.invariant ∙ ap (flat_map (drawn_finding c.args.layer c.args.holes.now)) (enumerated_all c.args.findings.now c.loop-place.place c.loop-place-test.false)
