use Rattle.report.proofs.RoundedDownLemma as rounding
use Rattle.report.proofs.laws.rounded_down.Goals as goal

pub returns : goal.returns
returns c = rounding.rounded_down
