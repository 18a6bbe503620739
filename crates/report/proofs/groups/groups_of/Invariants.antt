use Rattle.report.proofs.Common.{AreGroups}
use Rattle.report.proofs.groups.groups_of.Given as goal

abbrev pub invariant-loop-start : goal.invariant-loop-start
invariant-loop-start l = AreGroups l.others l.groups.items
