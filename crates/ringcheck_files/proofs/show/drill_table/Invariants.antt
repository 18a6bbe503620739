use Rattle.ringcheck_files.proofs.Common.{◌≡◌, ◌++◌, ◌+◌, drop, rows_from, hole_fields}
use Rattle.ringcheck_files.proofs.show.drill_table.Given as goal

abbrev pub invariant-loop-hole : goal.invariant-loop-hole
invariant-loop-hole l = record {
  number : l.number ≡ l.hole-index + 1;
  rows : l.initial.table ++ rows_from hole_fields 1 l.holes ≡ l.table ++ rows_from hole_fields l.number (drop l.hole-index l.holes);
}
