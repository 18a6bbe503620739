-- What a reader keeps of a layer.
use Rattle.std.specs.Prelude.{◌≡◌, ℕ, true, List, [], ◌++◌, map, Option, None, Some, Result, Ok, Err, if◌then◌else◌}
use Rattle.grid_units.specs.declared.fault.Fault.{Fault}
use Rattle.grid_units.specs.declared.profile.Profile.{Profile}
use Rattle.grid_units.specs.declared.profile.Profile.TheVariants.{Strict}
use Rattle.gerber_text.specs.Reading.{Entries}
use Rattle.gerber_text.specs.Writing.{without_places}
use Rattle.pad_shapes.specs.declared.pad.Pad.{Pad}
use Rattle.pad_shapes.specs.declared.wide_pad.WidePad.{WidePad}
use Rattle.pad_shapes.specs.declared.wide_pad.WidePad.TheVariants.{Plain}
use Rattle.layer_features.specs.declared.counts.FeatureCounts.{FeatureCounts}
use Rattle.pad_shapes.specs.declared.drawn.Drawn.{Drawn}
use Rattle.layer_features.specs.declared.feature.Feature.{Feature}
use Rattle.layer_state.specs.declared.flash.Flash.{Flash}
use Rattle.layer_state.specs.declared.flash.FlashKeep.{FlashKeep}
use Rattle.layer_state.specs.declared.flash.FlashKeep.TheVariants as flash_keep
use Rattle.layer_features.specs.declared.keep.Keep.{Keep}
use Rattle.layer_features.specs.declared.keep.Keep.TheVariants as keep
use Rattle.layer_features.specs.DrawnCopper.{first_parts, uncleared_drawn}
use Rattle.layer_features.specs.Features.{counts_of, features_of, pads_of, wide_features_of}
use Rattle.layer_state.specs.FileFunction.{file_function_of}
use Rattle.layer_state.specs.Flashes.{flashes_of}
use Rattle.layer_state.specs.Flashes as flash_lists
use Rattle.layer_features.specs.Kept.{keeps_commands, keeps_drawn, keeps_pads_alone, keeps_rows}
use Rattle.layer_image.specs.Layers.{LayerImage, ReadsLayerIn}

-- a pad of a standard aperture among all pads
abbrev pub plain : Pad → WidePad
plain pad = Plain pad

-- what is kept of a layer: commands, each with its place; flashes, pads of standard apertures and other pads; flashes and contours, as the wide profile
-- has them; what is drawn; how many flashes and contours there are of each kind; the text after `.FileFunction,`, if it is named
pub record KeptLayer : Type 0 where
  pub commands : Entries
  pub flashes : List Flash
  pub pads : List Pad
  pub wide_pads : List WidePad
  pub features : List Feature
  pub drawn : List Drawn
  pub counts : FeatureCounts
  pub file_function : Option (List ℕ)

-- what is kept of the flashes of the strict profile, where flashes and contours are not needed: of a whole layer, and of pads in the strict profile
abbrev pub flashes_kept : Profile → Keep → Option FlashKeep
flashes_kept profile keep.Layer = Some flash_keep.All
flashes_kept Strict keep.Pads = Some flash_keep.Pads
flashes_kept _ _ = None

-- the profile by which flashes and contours are counted: a whole layer counts as the strict profile does
abbrev pub counting_profile : Profile → Keep → Profile
counting_profile profile keep = if keeps_commands keep then Strict else profile

-- What is kept of the layer of these commands, whose pads so far were taken out but for these: the lists that are asked for, the others empty.
pub record IsKeptOf (profile : Profile) (keep : Keep) (left : List WidePad) (entries : Entries) (kept : KeptLayer) : Type 0 where
  pub commands : kept.commands ≡ (if keeps_commands keep then entries else [])
  pub flashes : kept.flashes ≡ (if keeps_commands keep then flashes_of (without_places entries) else [])
  pub plain_pads : keeps_commands keep ≡ true → left ≡ [] → kept.pads ≡ flash_lists.pads_of (flashes_of (without_places entries))
  pub pads : keeps_pads_alone keep ≡ true → left ++ (map plain kept.pads ++ kept.wide_pads) ≡ pads_of (features_of profile (without_places entries))
  pub features : kept.features ≡ (if keeps_rows keep then wide_features_of (without_places entries) else [])
  pub drawn : kept.drawn ≡ (if keeps_drawn keep then first_parts (uncleared_drawn (without_places entries)) else [])
  pub counts : kept.counts ≡ counts_of (features_of (counting_profile profile keep) (without_places entries))
  pub named : kept.file_function ≡ file_function_of (without_places entries)

-- in the profile a text has this that is kept of the layer that it reads as, where these pads are left of those that were taken out; or its fault
abbrev pub ReadsKeptIn : Profile → Keep → List WidePad → List ℕ → Result KeptLayer Fault → Type 0
ReadsKeptIn profile keep left text (Ok kept) = (layer : LayerImage) × ReadsLayerIn profile text (Ok layer) × IsKeptOf profile keep left layer.commands kept
ReadsKeptIn profile keep left text (Err f) = ReadsLayerIn profile text (Err f)

-- the layer whose commands, flashes and pads are kept
abbrev pub image_in : KeptLayer → LayerImage
image_in kept = record {
  commands = kept.commands;
  flashes = kept.flashes;
  pads = kept.pads;
  pad_count = kept.counts.flashed;
  other = kept.counts.other;
  file_function = kept.file_function;
}
