use Rattle.drill_text.proofs.Common.{Strict, plain}
use Rattle.drill_text.proofs.FaultsStay.{shows_stay_in, shown_is_read_in}
use Rattle.drill_text.proofs.laws.faults_stay.Goals as goal

pub returns-clause-shown : goal.returns-clause-shown
returns-clause-shown c = shows_stay_in (plain Strict)

pub returns-clause-read : goal.returns-clause-read
returns-clause-read c = shown_is_read_in (plain Strict)
