use Rattle.gerber_commands.proofs.Common.{◌≡◌, ◌++◌, take, pieces_text}
use Rattle.gerber_commands.proofs.canonical.put_pieces.Given as goal

abbrev pub invariant-loop-piece : goal.invariant-loop-piece
invariant-loop-piece l = l.out.items ≡ l.initial.out.items ++ pieces_text (take l.piece-index l.pieces)
