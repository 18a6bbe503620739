use Rattle.package_check.proofs.CopperPieces.{nothing_read}
use Rattle.package_check.proofs.open_copper.CopperReading.begin.Goals as goal

pub returns-in-None : goal.returns-in-None
returns-in-None c = λ holes layer layers none profile. (c.in-None.is, nothing_read c.args.profile holes layer c.in_profile.result profile none c.in_profile.ensures)
