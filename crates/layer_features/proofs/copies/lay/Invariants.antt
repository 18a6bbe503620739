use Rattle.layer_features.proofs.Common.{◌≡◌, ◌++◌, List, map, filter_map, flat_map, shape_at, WidePad, Feature, numbers_below, copy_in, contour_feature, KeepsFeatures}
use Rattle.layer_features.proofs.copies.lay.Given as goal

abbrev pub invariant-loop-u : goal.invariant-loop-u
invariant-loop-u l = record {
  kept : (taken : List WidePad) (features : List Feature) → KeepsFeatures l.fn.kept taken features
      → KeepsFeatures l.kept taken (features ++ map contour_feature (filter_map (shape_at l.contour) (flat_map (λ u. map (copy_in l.unit l.block u) (numbers_below l.block.rows)) (numbers_below l.u))));
  rows : l.kept.rows ≡ l.fn.kept.rows;
}
