use Rattle.ringcheck.proofs.Common.{sym}
use Rattle.ringcheck.proofs.packages.draw.Goals as goal

pub returns-in-Ok-clause-says : goal.returns-in-Ok-clause-says
returns-in-Ok-clause-says g c = rw (sym c.in-Ok.ensures) c.run_outlined.ensures.says
