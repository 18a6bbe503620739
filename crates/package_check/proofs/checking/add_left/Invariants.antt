use Rattle.package_check.proofs.Common.{◌≡◌, ◌++◌, flat_map, rings_in, sums_in}
use Rattle.package_check.proofs.checking.add_left.Given as goal

abbrev pub invariant-loop-slot : goal.invariant-loop-slot
invariant-loop-slot l = record {
  files : l.files.items ≡ l.initial.files.items ++ flat_map sums_in l.yielded;
  findings : l.findings.items ≡ l.initial.findings.items ++ flat_map rings_in l.yielded;
}
