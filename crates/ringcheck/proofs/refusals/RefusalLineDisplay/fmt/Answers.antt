use Rattle.ringcheck.proofs.refusals.RefusalLineDisplay.fmt.Goals as goal

pub returns-in-Waivers-clause-writes : goal.returns-in-Waivers-clause-writes
returns-in-Waivers-clause-writes g c = rw c.in-Waivers.is (rw c.name-reason.ensures at c.write-in-Waivers.ensures.writes)

pub returns-in-File-clause-writes : goal.returns-in-File-clause-writes
returns-in-File-clause-writes g c = rw c.in-File.is (rw c.name-reason.ensures at c.write-in-File.ensures.writes)
