use Rattle.gerber_commands.proofs.WrittenPieces.{answers_are_written}
use Rattle.gerber_commands.proofs.laws.written_pieces.Goals as goal

pub returns : goal.returns
returns c = answers_are_written
