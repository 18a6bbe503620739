use Rattle.macro_shapes.proofs.OneAnswer.{read_exactly}
use Rattle.macro_shapes.proofs.laws.macros_are_read_exactly.Goals as goal

pub returns : goal.returns
returns c = read_exactly
