use Rattle.ringcheck_files.proofs.Common.{◌≡◌, ◌++◌, ◌+◌, drop, rows_from, feature_fields}
use Rattle.ringcheck_files.proofs.show.layer_table.Given as goal

abbrev pub invariant-loop-feature : goal.invariant-loop-feature
invariant-loop-feature l = record {
  number : l.number ≡ l.feature-index + 1;
  rows : l.initial.table ++ rows_from feature_fields 1 l.features ≡ l.table ++ rows_from feature_fields l.number (drop l.feature-index l.features);
}
