use Rattle.package_check.proofs.Common.{◌≡◌, holes_before, AreStartsOf}
use Rattle.package_check.proofs.package_report.starts_of.Given as goal

abbrev pub invariant-loop-file : goal.invariant-loop-file
invariant-loop-file l = record {
  start : l.start ≡ holes_before l.files l.file-index;
  starts : AreStartsOf l.files l.file-index l.starts.items;
}
