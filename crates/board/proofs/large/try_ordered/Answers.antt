use Rattle.board.proofs.Common.{ℕ, None, get_or, subst, ◌∙◌, arith, get_or_default, hole_at, IsNoBetter}
use Rattle.board.proofs.large.try_ordered.Goals as goal

pub returns-clause-below : goal.returns-clause-below
returns-clause-below g c = λ place among k h.
    subst (λ (n : ℕ). IsNoBetter g.S.PadShape.covers c.args.pads.now n (hole_at c.args.holes.now k) (get_or c.try_all.new.bests k None)) (get_or_default c.args.order.now among.0 0 place among.1 ∙ among.2)
    (c.try_all.ensures.below k h among.0 (omega arith) among.1)
