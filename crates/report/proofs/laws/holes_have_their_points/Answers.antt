use Rattle.report.proofs.HolePoints as points
use Rattle.report.proofs.laws.holes_have_their_points.Goals as goal

pub returns : goal.returns
returns c = points.holes_have_their_points
