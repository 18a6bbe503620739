use Rattle.report.proofs.Common.{take, AreRescaled}
use Rattle.report.proofs.bare.all_rescaled.Given as goal

abbrev pub invariant-loop-drilled : goal.invariant-loop-drilled
invariant-loop-drilled l = AreRescaled l.factor (take l.drilled-index l.holes) l.all.items
