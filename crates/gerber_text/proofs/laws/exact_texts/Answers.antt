use Rattle.gerber_text.proofs.SpelledIsWritten.{spelled_is_written}
use Rattle.gerber_text.proofs.WrittenIsSpelled.{written_is_spelled, one_list}
use Rattle.gerber_text.proofs.laws.exact_texts.Goals as goal

pub returns : goal.returns
returns c = record { written = spelled_is_written; spelled = written_is_spelled; unique = one_list }
