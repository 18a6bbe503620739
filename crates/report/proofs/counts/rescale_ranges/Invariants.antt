use Rattle.report.proofs.Common.{take, AreRescaledRanges}
use Rattle.report.proofs.counts.rescale_ranges.Given as goal

abbrev pub invariant-loop-range : goal.invariant-loop-range
invariant-loop-range l = AreRescaledRanges l.factor l.holes (take l.range-index l.ranges) l.all
