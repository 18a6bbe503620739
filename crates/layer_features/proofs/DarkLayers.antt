-- A layer without clear polarity has all of its flashes and contours.
use Rattle.layer_features.proofs.Common.{◌≡◌, ◌++◌, false, List, filter_map, flat_map, list_any, with_prefixes, Command, features_at, wide_features_of, taken_away}
use Rattle.layer_features.proofs.ClearingLemmas.{all_uncleared, is_clear, none_cleared}

pub all_features : (commands : List Command) → list_any is_clear commands ≡ false → wide_features_of commands ≡ flat_map features_at (with_prefixes commands)
all_features commands h = λ i. filter_map taken_away (flat_map features_at (none_cleared commands h i)) ++ flat_map features_at (all_uncleared commands h i)
