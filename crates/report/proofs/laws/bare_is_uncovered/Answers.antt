use Rattle.report.proofs.BareLemmas as baring
use Rattle.report.proofs.laws.bare_is_uncovered.Goals as goal

pub returns : goal.returns
returns c = baring.bare_is_uncovered
