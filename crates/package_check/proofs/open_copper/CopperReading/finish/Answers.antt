use Rattle.package_check.proofs.Common.{subst, HasReadCopper, CopperReading}
use Rattle.package_check.proofs.CheckSteps.{judged_bytes}
use Rattle.package_check.proofs.CopperPieces.{failed_judged}
use Rattle.package_check.proofs.open_copper.CopperReading.finish.Goals as goal

pub returns-in-Layer-clause-judged : goal.returns-in-Layer-clause-judged
returns-in-Layer-clause-judged c = λ said layers text h.
    let was = subst (λ (r : CopperReading). HasReadCopper c.args.holes.now c.args.layer said layers r text) c.in-Layer.is h in
    judged_bytes c.args.holes.now.rules c.args.holes.now.holes c.args.layer layers said text c.judge.result was.0 (c.judge.ensures.judged text was.1)

pub returns-in-Failed-clause-judged : goal.returns-in-Failed-clause-judged
returns-in-Failed-clause-judged c = λ said layers text h.
    failed_judged c.args.holes.now.rules c.args.holes.now.holes c.args.layer said (record { layers = layers; profile = c.args.holes.now.rules.profile }) text c.in-Failed.fail (subst (λ (r : CopperReading). HasReadCopper c.args.holes.now c.args.layer said layers r text) c.in-Failed.is h)
