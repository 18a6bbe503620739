use Rattle.grid_units.proofs.LookbackLemmas.{violations-first, violations-more}
use Rattle.grid_units.proofs.laws.first_violation.Goals as goal

pub returns-clause-first : goal.returns-clause-first
returns-clause-first g c = violations-first

pub returns-clause-none : goal.returns-clause-none
returns-clause-none g c = violations-more
