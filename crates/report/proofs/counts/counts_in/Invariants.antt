use Rattle.report.proofs.Common.{List, take, wide_pad_covers, WidePad, AreBare, UnitFactor, AreCounted, AreRescaledRanges}
use Rattle.report.proofs.counts.counts_in.Given as goal

abbrev pub invariant-loop-place : goal.invariant-loop-place
invariant-loop-place l = (factor : UnitFactor) (pads : List WidePad) → AreRescaledRanges factor l.holes l.ranges l.all → AreBare wide_pad_covers pads l.all.holes.items l.bare → AreCounted pads l.holes (take l.place l.ranges) factor l.counts.items
