use Rattle.picture.proofs.Common.{arith, sym, length-take, take_all}
use Rattle.picture.proofs.findings.marked.Goals as goal

pub returns-then-lacks-le-MOST_MARKED : goal.returns-then-lacks-le-MOST_MARKED
returns-then-lacks-le-MOST_MARKED c = sym (take_all 100 c.args.lacks.now c.if-lacks-le-MOST_MARKED.true)

pub slice_bounds-result-end : goal.slice_bounds-result-end
slice_bounds-result-end c = omega (arith, length-take 100 c.args.lacks.now, c.if-lacks-le-MOST_MARKED.false)
