use Rattle.drill_text.proofs.Common.{Strict, plain}
use Rattle.drill_text.proofs.UniqueReading.{one_shown_in, one_read_in}
use Rattle.drill_text.proofs.laws.unique_reading.Goals as goal

pub returns-clause-shown : goal.returns-clause-shown
returns-clause-shown c = one_shown_in (plain Strict)

pub returns-clause-read : goal.returns-clause-read
returns-clause-read c = one_read_in (plain Strict)
