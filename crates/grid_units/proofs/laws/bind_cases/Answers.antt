use Rattle.grid_units.proofs.ResultLemmas.{bind_ok, bind_err}
use Rattle.grid_units.proofs.laws.bind_cases.Goals as goal

pub returns-clause-ok : goal.returns-clause-ok
returns-clause-ok g c = bind_ok

pub returns-clause-err : goal.returns-clause-err
returns-clause-err g c = bind_err
