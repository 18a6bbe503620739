use Rattle.ring_rules.proofs.Common.{◌≡◌, IfOk-weaker, gap_findings}
use Rattle.ring_rules.proofs.gaps.gap_findings.Goals as goal

pub returns : goal.returns
returns c =
    IfOk-weaker c.gaps_of.result _ (λ v. v.items ≡ gap_findings c.args.rules.gap c.args.holes.now)
    (λ v h. h c.args.rules.gap c.args.holes.now c.in_ok-pairs.ensures.sound c.in_ok-pairs.ensures.complete)
    c.gaps_of.ensures
