use Rattle.layer_features.proofs.Common.{◌≡◌, ◌++◌, List, map, take, WidePad, Feature, CopperState, flash_shape, macro_why, flash_feature, KeepsFeatures}
use Rattle.layer_features.proofs.copper.add_flashes.Given as goal

abbrev pub invariant-loop-flash : goal.invariant-loop-flash
invariant-loop-flash l = record {
  kept : (s : CopperState) (taken : List WidePad) (features : List Feature) → l.is_clear ≡ s.clearing.clear → l.shape ≡ flash_shape s → l.why ≡ macro_why s → KeepsFeatures l.fn.kept taken features → KeepsFeatures l.kept taken (features ++ map (flash_feature s) (take l.flash-index l.flashes));
  rows : l.kept.rows ≡ l.fn.kept.rows;
}
