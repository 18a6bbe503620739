use Rattle.report.proofs.Common.{subst, sym, AreGroups}
use Rattle.report.proofs.groups.groups_of.Goals.{then-start-eq0+in_ok-push_groups, else-start-eq0}
use Rattle.report.proofs.groups.groups_of.Goals as goal

pub loop-start-preserved : goal.loop-start-preserved
loop-start-preserved c = elim c.if-start-eq0.branch [
  | then-start-eq0+in_ok-push_groups w ↦ subst (λ groups. AreGroups c.args.others.now groups.items) (sym w.groups-is) (w.in_ok-push_groups.ensures c.loop-start.invariant)
  | else-start-eq0 w ↦ subst (λ groups. AreGroups c.args.others.now groups.items) (sym w.groups-is) c.loop-start.invariant
]
