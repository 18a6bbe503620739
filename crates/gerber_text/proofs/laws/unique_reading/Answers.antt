use Rattle.gerber_text.proofs.FinishLemmas.{shows_reads}
use Rattle.gerber_text.proofs.Some.{some_reading, spelled_reading}
use Rattle.gerber_text.proofs.ReadingReasons.{reads_reasons}
use Rattle.gerber_text.proofs.UniqueReading.{one_shown, one_read}
use Rattle.gerber_text.proofs.laws.unique_reading.Goals as goal

pub returns : goal.returns
returns c = record { shown = one_shown; read = one_read; some = some_reading; spelled = spelled_reading; faults = shows_reads; reasons = reads_reasons }
