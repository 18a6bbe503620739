use Rattle.waivers.proofs.Refusals.{waivers_fair}
use Rattle.waivers.proofs.laws.waiver_reasons.Goals as goal

pub returns : goal.returns
returns c = waivers_fair
