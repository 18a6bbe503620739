use Rattle.drill_text.proofs.FaultsStay.{shown_is_read_in}
use Rattle.drill_text.proofs.FirstFaults.{each_read_in}
use Rattle.drill_text.proofs.KindLemmas.{kinds_read_the_same}
use Rattle.drill_text.proofs.UniqueReading.{one_shown_in, one_read_in}
use Rattle.drill_text.proofs.laws.readings_of_kinds.Goals as goal

pub returns-clause-shown : goal.returns-clause-shown
returns-clause-shown c = one_shown_in

pub returns-clause-read : goal.returns-clause-read
returns-clause-read c = one_read_in

pub returns-clause-stays : goal.returns-clause-stays
returns-clause-stays c = shown_is_read_in

pub returns-clause-some : goal.returns-clause-some
returns-clause-some c = each_read_in

pub returns-clause-same : goal.returns-clause-same
returns-clause-same c = kinds_read_the_same
