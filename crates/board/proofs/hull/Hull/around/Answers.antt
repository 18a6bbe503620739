use Rattle.board.proofs.Common.{refl, arith}
use Rattle.board.proofs.HullLemmas.{wider, moved}
use Rattle.board.proofs.hull.Hull.around.Goals as goal

pub returns-clause-this : goal.returns-clause-this
returns-clause-this c =
    wider _ c.args.self.now refl (omega (arith, c.max-half_x.ensures)) (omega (arith, c.max-half_y.ensures)) (omega (arith, c.max-radius.ensures)) (omega (arith, c.max.ensures)) (omega (arith, c.max-2.ensures)) (omega (arith, c.max-3.ensures))

pub returns-clause-other : goal.returns-clause-other
returns-clause-other c =
    moved _ c.args.other.now c.apart_x-dx.result c.apart_y-dy.result c.length_rounded_up.result c.apart_x-dx.ensures.value c.apart_y-dy.ensures.value ((c.length_rounded_up.ensures.exact c.length_rounded_up.result).1 (omega arith))
    (omega (arith, c.max-half_x.ensures)) (omega (arith, c.max-half_y.ensures)) (omega (arith, c.max-radius.ensures)) (omega (arith, c.max.ensures)) (omega (arith, c.max-2.ensures)) (omega (arith, c.max-3.ensures))
