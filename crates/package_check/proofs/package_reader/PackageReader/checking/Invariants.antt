use Rattle.package_check.proofs.Common.{◌≡◌, map, flat_map, count_in, holes_in, left_in}
use Rattle.package_check.proofs.package_reader.PackageReader.checking.Given as goal

abbrev pub invariant-loop-slot : goal.invariant-loop-slot
invariant-loop-slot l = record {
  holes : l.drilled.items ≡ flat_map holes_in l.yielded;
  slots : map left_in l.slots.items ≡ map count_in l.yielded;
}
