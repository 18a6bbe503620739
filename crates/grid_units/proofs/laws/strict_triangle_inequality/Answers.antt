use Rattle.grid_units.proofs.TriangleInequalities.{strict_triangle_inequality}
use Rattle.grid_units.proofs.laws.strict_triangle_inequality.Goals as goal

pub returns : goal.returns
returns c = strict_triangle_inequality
