use Rattle.ringcheck.proofs.reports.print_judged.Goals as goal

pub returns-in-Some : goal.returns-in-Some
returns-in-Some g c = rw c.in-Some.is (rw c.as_slice.ensures.value at c.print_waived.ensures)
