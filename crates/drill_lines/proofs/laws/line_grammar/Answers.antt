use Rattle.drill_lines.proofs.Answered.{written_is_answered, spells_at_most_one}
use Rattle.drill_lines.proofs.RepeatLemmas.{none_repeated, repeats_are_written}
use Rattle.drill_lines.proofs.Written.{answers_are_written}
use Rattle.drill_lines.proofs.laws.line_grammar.Goals as goal

pub returns : goal.returns
returns c = record { written = answers_are_written; answered = written_is_answered; one = spells_at_most_one; repeats = repeats_are_written; apart = none_repeated }
