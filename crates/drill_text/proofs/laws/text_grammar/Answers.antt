use Rattle.drill_text.proofs.GrammarLemmas.{spelled_is_written}
use Rattle.drill_text.proofs.WideGrammarLemmas.{is_text_of_at_most_one}
use Rattle.drill_text.proofs.laws.text_grammar.Goals as goal

pub returns : goal.returns
returns c = record { written = spelled_is_written; one = is_text_of_at_most_one }
