-- What is kept of a layer, and of its flashes and contours while they come.
use Rattle.std.specs.Prelude.{◌≡◌, ◌≤◌, ℕ, Bool, true, false, List, [], ◌++◌, drop, length, take, if◌then◌else◌, OnOk, Result}
use Rattle.std.specs.List.{filter_map}
use Rattle.pad_shapes.specs.declared.wide_pad.WidePad.{WidePad}
use Rattle.layer_features.specs.declared.feature.Feature.{Feature}
use Rattle.layer_features.specs.declared.keep.Keep.{Keep}
use Rattle.layer_features.specs.declared.keep.Keep.TheVariants as keep
use Rattle.layer_features.specs.declared.kept_features.KeptFeatures.{KeptFeatures}
use Rattle.layer_features.specs.Features.{counts_of, pads_of, taken_away}

-- commands are kept, with flashes and pads as the strict profile has them
abbrev pub keeps_commands : Keep → Bool
keeps_commands keep.Layer = true
keeps_commands _ = false

-- pads alone are kept
abbrev pub keeps_pads_alone : Keep → Bool
keeps_pads_alone keep.Pads = true
keeps_pads_alone _ = false

-- flashes and contours are kept
abbrev pub keeps_rows : Keep → Bool
keeps_rows keep.Rows = true
keeps_rows keep.RowsAndDrawn = true
keeps_rows _ = false

-- what is drawn is kept
abbrev pub keeps_drawn : Keep → Bool
keeps_drawn keep.RowsAndDrawn = true
keeps_drawn _ = false

-- what is left of flashes and contours of which clear polarity takes away the first ones, so many
abbrev pub first_taken_away : ℕ → List Feature → List Feature
first_taken_away count features = filter_map taken_away (take count features) ++ drop count features

-- what is left of the pads that were taken out before: none where clear polarity took them away since
abbrev pub left_pads : KeptFeatures → List WidePad → List WidePad
left_pads kept taken = if kept.forgets then [] else taken

-- Just these flashes and contours were made, as they stand now: all are counted; they are kept where that is asked for, else the pads among them,
-- after what is left of those that were taken out.
pub record KeepsFeatures (kept : KeptFeatures) (taken : List WidePad) (made : List Feature) : Type 0 where
  pub counts : kept.counts ≡ counts_of made
  pub few : kept.cleared ≤ length kept.features.items
  pub features : first_taken_away kept.cleared kept.features.items ≡ (if kept.rows then made else [])
  pub pads : left_pads kept taken ++ kept.pads.items ≡ (if kept.rows then [] else pads_of made)

-- whatever flashes and contours were made so far, on success these are made after them
abbrev pub AddsFeatures : {T E : Type 0} → Result T E → KeptFeatures → KeptFeatures → List Feature → Type 0
AddsFeatures result old new more =
    (taken : List WidePad) (made : List Feature) → KeepsFeatures old taken made → OnOk result (KeepsFeatures new taken (made ++ more))
