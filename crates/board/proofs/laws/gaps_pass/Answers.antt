use Rattle.board.proofs.WithoutFindings.{gaps_pass}
use Rattle.board.proofs.laws.gaps_pass.Goals as goal

pub returns : goal.returns
returns c = gaps_pass
