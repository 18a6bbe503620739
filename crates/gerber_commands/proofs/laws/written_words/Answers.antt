use Rattle.gerber_commands.proofs.WrittenWords.{word_written}
use Rattle.gerber_commands.proofs.laws.written_words.Goals as goal

pub returns : goal.returns
returns c = word_written
