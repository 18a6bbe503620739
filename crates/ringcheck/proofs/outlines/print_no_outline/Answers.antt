use Rattle.ringcheck.proofs.Common.{refl}
use Rattle.ringcheck.proofs.outlines.print_no_outline.Goals as goal

pub returns-in_ok-write-in-Refused : goal.returns-in_ok-write-in-Refused
returns-in_ok-write-in-Refused g c = rw c.in-Refused.is (refl, rw c.name-reason.ensures at c.in_ok-write-in-Refused.ensures.bytes)
