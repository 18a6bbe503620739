use Rattle.package_check.proofs.MatchedRows as matched
use Rattle.package_check.proofs.laws.rows_are_matched.Goals as goal

pub returns : goal.returns
returns c = matched.rows_are_matched
