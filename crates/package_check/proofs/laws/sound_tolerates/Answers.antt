use Rattle.package_check.proofs.Tolerances as tolerances
use Rattle.package_check.proofs.laws.sound_tolerates.Goals as goal

pub returns : goal.returns
returns c = tolerances.sound_tolerates
