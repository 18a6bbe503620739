-- The products are those of the differences of coordinates.
use Rattle.picture.proofs.Common.{arith, to_z-of_z}
use Rattle.picture.proofs.copper.is_left.Goals as goal

pub returns : goal.returns
returns c = grind (arith, to_z-of_z)
