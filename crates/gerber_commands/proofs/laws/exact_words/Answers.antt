use Rattle.gerber_commands.proofs.Exact.{word_exact, one_spelling}
use Rattle.gerber_commands.proofs.laws.exact_words.Goals as goal

pub returns : goal.returns
returns c = record { read = word_exact; unique = one_spelling }
