use Rattle.package_check.proofs.MeasuredLemmas as measured
use Rattle.package_check.proofs.laws.measured_passes.Goals as goal

pub returns : goal.returns
returns c = measured.measured_passes c.rings_pass.ensures c.gaps_pass.ensures c.unique_answer.ensures
