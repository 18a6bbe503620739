use Rattle.layer_state.proofs.Common.{arith, ints}
use Rattle.layer_state.proofs.size.half_of.Goals as goal

pub returns-in-Inch : goal.returns-in-Inch
returns-in-Inch c = grind (arith, ints)

pub returns-in-Millimetre : goal.returns-in-Millimetre
returns-in-Millimetre c = grind (arith, ints)
