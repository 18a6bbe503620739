use Rattle.package_check.proofs.Common.{◌≡◌, ◌≤◌, length, take, holes_with_platings}
use Rattle.package_check.proofs.readers.marked.Given as goal

abbrev pub invariant-loop-i : goal.invariant-loop-i
invariant-loop-i l = record {
  so_far : l.all.items ≡ holes_with_platings l.span (take l.i l.holes) (take l.i l.plated);
  within : l.i ≤ length l.plated;
}
