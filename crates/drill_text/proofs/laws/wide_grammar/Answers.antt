use Rattle.drill_text.proofs.WideGrammarLemmas.{written_is_read}
use Rattle.drill_text.proofs.WideReadings.{read_is_written}
use Rattle.drill_text.proofs.laws.wide_grammar.Goals as goal

pub returns : goal.returns
returns c = record { read = written_is_read; written = read_is_written }
