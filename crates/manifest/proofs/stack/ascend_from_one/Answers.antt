use Rattle.manifest.proofs.Common.{arith, sym}
use Rattle.manifest.proofs.OneToN.{confirmed, refuted}
use Rattle.manifest.proofs.stack.ascend_from_one.Goals as goal

pub returns-then-number-index : goal.returns-then-number-index
returns-then-number-index c = sym (refuted c.args.numbers.now c.loop-index.index c.requires c.loop-index-test.true c.if-number-index.true)

pub returns : goal.returns
returns c = sym (confirmed c.args.numbers.now (λ i d lt. c.loop-index.invariant i d (omega (arith, lt, c.loop-index-test.false))))
