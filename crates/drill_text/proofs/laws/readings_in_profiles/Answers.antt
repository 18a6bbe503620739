use Rattle.drill_text.proofs.Common.{plain}
use Rattle.drill_text.proofs.FaultsStay.{shown_is_read_in}
use Rattle.drill_text.proofs.FirstFaults.{each_read_in}
use Rattle.drill_text.proofs.UniqueReading.{one_shown_in, one_read_in}
use Rattle.drill_text.proofs.laws.readings_in_profiles.Goals as goal

pub returns-clause-shown : goal.returns-clause-shown
returns-clause-shown c p = one_shown_in (plain p)

pub returns-clause-read : goal.returns-clause-read
returns-clause-read c p = one_read_in (plain p)

pub returns-clause-stays : goal.returns-clause-stays
returns-clause-stays c p = shown_is_read_in (plain p)

pub returns-clause-some : goal.returns-clause-some
returns-clause-some c p = each_read_in (plain p)
