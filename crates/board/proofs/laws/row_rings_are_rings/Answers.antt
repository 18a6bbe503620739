use Rattle.board.proofs.Common.{None, get_or, hole_at}
use Rattle.board.proofs.MeetsLemmas.{ring_of_best}
use Rattle.board.proofs.laws.row_rings_are_rings.Goals as goal

pub returns : goal.returns
returns g c = λ profile pads holes bests k are inside. ring_of_best g.S.PadShape.covers profile pads (hole_at holes k) (get_or bests k None) (are.each k inside)
