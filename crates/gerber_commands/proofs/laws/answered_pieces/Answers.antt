use Rattle.gerber_commands.proofs.Answered.{one_list, written_is_answered}
use Rattle.gerber_commands.proofs.laws.answered_pieces.Goals as goal

pub returns : goal.returns
returns c = record { piece = written_is_answered; unique = one_list }
