use Rattle.grid_units.proofs.TriangleInequalities.{triangle_inequality}
use Rattle.grid_units.proofs.laws.triangle_inequality.Goals as goal

pub returns : goal.returns
returns c = triangle_inequality
