use Rattle.layer_features.proofs.Common.{◌≡◌, ◌++◌, List, map, filter_map, shape_at, WidePad, Feature, numbers_below, copy_in, contour_feature, KeepsFeatures}
use Rattle.layer_features.proofs.copies.lay_column.Given as goal

abbrev pub invariant-loop-v : goal.invariant-loop-v
invariant-loop-v l = record {
  kept : (taken : List WidePad) (features : List Feature) → KeepsFeatures l.fn.kept taken features
      → KeepsFeatures l.kept taken (features ++ map contour_feature (filter_map (shape_at l.contour) (map (copy_in l.unit l.block l.u) (numbers_below l.v))));
  rows : l.kept.rows ≡ l.fn.kept.rows;
}
