use Rattle.grid_units.proofs.LengthLemmas.{exact}
use Rattle.grid_units.proofs.lengths.exact_lengths.Goals as goal

pub returns : goal.returns
returns c = exact
