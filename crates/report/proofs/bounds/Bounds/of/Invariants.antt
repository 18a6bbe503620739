use Rattle.report.proofs.Common.{take, All, Contains, IsWithin}
use Rattle.report.proofs.bounds.Bounds.of.Given as goal

abbrev pub invariant-loop-other : goal.invariant-loop-other
invariant-loop-other l = record {
  within : All (IsWithin l.bounds) (take l.other-index l.others);
  first : Contains l.others l.bounds.first;
}
