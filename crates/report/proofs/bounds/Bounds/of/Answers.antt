use Rattle.report.proofs.Common.{subst, All, take_all, IsWithin}
use Rattle.report.proofs.FirstInHole.{one_first, one_more}
use Rattle.report.proofs.bounds.Bounds.of.Goals as goal

pub loop-other-preserved : goal.loop-other-preserved
loop-other-preserved c =
    let all = c.args.others.now in
    let i = c.loop-other.other-index in
    let item = c.other-item.result in
    let b = c.loop-other.bounds in
    let wide = c.with-bounds.result in
    record {
      within = one_more all i item b wide c.loop-other-test.true c.other-item.is c.with-bounds.ensures.within c.with-bounds.ensures.keeps c.loop-other.invariant.within;
      first = one_first all i item b wide c.loop-other-test.true c.other-item.is c.with-bounds.ensures.first c.loop-other.invariant.first;
    }

pub returns : goal.returns
returns c = record {
  within = subst (All (IsWithin c.loop-other.bounds)) (take_all c.loop-other.other-index c.args.others.now c.loop-other-test.false) c.loop-other.invariant.within;
  first = c.loop-other.invariant.first;
}
