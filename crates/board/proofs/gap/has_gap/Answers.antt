use Rattle.board.proofs.Common.{sym, ◌∙◌, arith, ints}
use Rattle.board.proofs.GapsLemmas.{gap_of_none, gap_of_far}
use Rattle.board.proofs.gap.has_gap.Goals as goal

pub returns-then-reach-le0 : goal.returns-then-reach-le0
returns-then-reach-le0 c = λ test g gap.
    gap_of_none c.args.a.now c.args.b.now c.args.gap g (omega (arith, ints, c.requires, c.radius.ensures.value, c.radius.ensures.in_range, c.radius-2.ensures.value, c.radius-2.ensures.in_range, c.if-reach-le0.true)) gap

pub returns : goal.returns
returns c = λ test g gap.
    gap_of_far c.args.a.now c.args.b.now c.args.gap g c.unsigned_abs.result (omega (arith, ints, c.requires, c.radius.ensures.value, c.radius.ensures.in_range, c.radius-2.ensures.value, c.radius-2.ensures.in_range, c.if-reach-le0.false, c.unsigned_abs.ensures.value)) (sym c.is_as_far.ensures ∙ test) gap
