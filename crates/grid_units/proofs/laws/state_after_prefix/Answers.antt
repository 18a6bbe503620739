use Rattle.grid_units.proofs.LookbackLemmas.{last_set-append, flat_positions-more}
use Rattle.grid_units.proofs.laws.state_after_prefix.Goals as goal

pub returns-clause-last : goal.returns-clause-last
returns-clause-last g c = last_set-append

pub returns-clause-one_more : goal.returns-clause-one_more
returns-clause-one_more g c = flat_positions-more
