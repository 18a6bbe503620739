use Rattle.gerber_commands.proofs.Common.{refl}
use Rattle.gerber_commands.specs.Words.{operands}
use Rattle.gerber_commands.proofs.word.read_operands.Goals as goal

pub returns : goal.returns
unfolding operands
returns c =
    rw (c.both-2.ensures, c.word_action.ensures, c.has_offsets.ensures, c.both-coordinates.ensures, c.both.ensures, c.both-point.ensures, c.coordinate_of.ensures, c.coordinate_of-2.ensures, c.coordinate_of-3.ensures, c.coordinate_of-4.ensures) refl
