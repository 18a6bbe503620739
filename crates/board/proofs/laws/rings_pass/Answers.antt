use Rattle.board.proofs.WithoutFindings.{rings_pass}
use Rattle.board.proofs.laws.rings_pass.Goals as goal

pub returns : goal.returns
returns g c = rings_pass g.S.PadShape.covers g.met.S.DepthShape.covers_less
