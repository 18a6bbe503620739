use Rattle.gerber_commands.proofs.Common.{refl}
use Rattle.gerber_commands.specs.Pieces.{block_fields}
use Rattle.gerber_commands.proofs.piece.block_fields.Goals as goal

pub returns : goal.returns
unfolding block_fields
returns c = rw (c.both-2.ensures, c.both-counts.ensures, c.both.ensures, c.read_nat.ensures, c.read_nat-2.ensures, c.read.ensures.exact, c.read-2.ensures.exact) refl
