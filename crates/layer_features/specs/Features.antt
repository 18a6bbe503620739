-- The flashes and contours of a layer that is read in the wide profile, in the order of its text (docs/FORMATS.md, Further copper).
use Rattle.std.specs.Prelude.{Bool, true, false, ℕ, List, [], count_by, ◌++◌, map, Option, None, Some, option_map, is_none, if◌then◌else◌}
use Rattle.std.specs.Option.{option_map_or}
use Rattle.std.specs.List.{filter_map, flat_map}
use Rattle.grid_units.specs.Points.{GridPoint}
use Rattle.grid_units.specs.declared.profile.Profile.{Profile}
use Rattle.grid_units.specs.declared.profile.Profile.TheVariants.{Strict, Wide}
use Rattle.pad_shapes.specs.Rounded.{GridRounded}
use Rattle.pad_shapes.specs.declared.wide_pad.WidePad.{WidePad}
use Rattle.pad_shapes.specs.declared.wide_pad.WidePad.TheVariants.{Plain, Rounded}
use Rattle.gerber_commands.specs.declared.command.Command.{Command}
use Rattle.layer_state.specs.declared.flash.Flash.{Flash}
use Rattle.layer_state.specs.declared.flash.What.{What}
use Rattle.layer_state.specs.declared.flash.What.TheVariants as what
use Rattle.pad_shapes.specs.declared.row.Why.{Why}
use Rattle.pad_shapes.specs.declared.row.Why.TheVariants as why
use Rattle.layer_state.specs.Lookback.{state_after}
use Rattle.layer_state.specs.Flashes.{added_flashes, flashes_of}
use Rattle.layer_features.specs.declared.counts.FeatureCounts.{FeatureCounts}
use Rattle.layer_features.specs.declared.feature.Feature.{Feature}
use Rattle.layer_features.specs.declared.feature.FeatureKind.{FeatureKind}
use Rattle.layer_features.specs.declared.feature.FeatureKind.TheVariants as kind
use Rattle.pad_shapes.specs.declared.row.FeatureRow.{FeatureRow}
use Rattle.pad_shapes.specs.declared.row.RowKind.{RowKind}
use Rattle.pad_shapes.specs.declared.row.RowKind.TheVariants as row
use Rattle.layer_features.specs.Clearing.{positions_up_to_clearing, positions_after_clearing}
use Rattle.layer_features.specs.FurtherPads.{CopperState, contours_in, copper_state_after, flashed_pad, macro_why}

-- ---- what a command adds

-- what a flash is that is no pad, neither by its aperture nor by its shape
abbrev pub other_kind : CopperState → Why → FeatureKind
other_kind s why.Macro = kind.Macro (macro_why s)
other_kind s reason = kind.Other reason

-- what a flash in dark polarity is: one that is no pad by its aperture is the pad of its shape, where it has one
abbrev pub dark_kind : CopperState → GridPoint → What → FeatureKind
dark_kind s at (what.Pad pad) = kind.Pad pad
dark_kind s at (what.Other reason) = option_map_or (λ pad. kind.Shape pad reason) (flashed_pad s at) (other_kind s reason)

-- a flash, which counts as no pad in clear polarity (Gerber format, Load polarity LP)
abbrev pub flash_feature : CopperState → Flash → Feature
flash_feature s f = record { at = f.at; what = if s.clearing.clear then kind.Clear else dark_kind s f.at f.what }

-- a contour, at its first corner
abbrev pub contour_feature : GridRounded → Feature
contour_feature pad = record { at = pad.first; what = kind.Contour pad }

-- what a command adds, by its flashes: it flashes, or it ends a region, or it adds nothing
abbrev pub added_features : CopperState → List Flash → Command → List Feature
added_features s flashes c = map (flash_feature s) flashes ++ map contour_feature (contours_in s c)

-- what a command adds after others
abbrev pub features_at : List Command × Command → List Feature
features_at p = added_features (copper_state_after p.0) (added_flashes (state_after p.0) p.1) p.1

-- ---- over a whole list

-- what is left of a flash or contour that clear polarity takes away: nothing of a contour
abbrev pub taken_kind : FeatureKind → Option FeatureKind
taken_kind (kind.Contour pad) = None
taken_kind kind.Clear = Some kind.Clear
taken_kind _ = Some kind.Cleared

-- the same with its point
abbrev pub taken_away : Feature → Option Feature
taken_away f = option_map (λ k. record { at = f.at; what = k }) (taken_kind f.what)

-- the flashes and contours of a list of commands in the wide profile, in order: what is left of those that clear polarity takes away, then
-- those that count
abbrev pub wide_features_of : List Command → List Feature
wide_features_of commands = filter_map taken_away (flat_map features_at (positions_up_to_clearing commands)) ++ flat_map features_at (positions_after_clearing commands)

-- what a flash is in the strict profile, where a macro is no pad
abbrev pub strict_kind : What → FeatureKind
strict_kind (what.Pad pad) = kind.Pad pad
strict_kind (what.Other reason) = kind.Other reason

-- a flash of the strict profile
abbrev pub strict_feature : Flash → Feature
strict_feature f = record { at = f.at; what = strict_kind f.what }

-- the flashes and contours of a list of commands in a profile, in order: in the strict one its flashes, of which nothing is taken away
abbrev pub features_of : Profile → List Command → List Feature
features_of Strict commands = map strict_feature (flashes_of commands)
features_of Wide commands = wide_features_of commands

-- ---- what the strict profile says of those of the wide one

-- what a flash of the wide profile is in the strict one, where nothing was drawn in clear polarity; a contour is no flash
abbrev pub strict_kind_of : FeatureKind → Option FeatureKind
strict_kind_of (kind.Pad pad) = Some (kind.Pad pad)
strict_kind_of (kind.Shape pad reason) = Some (kind.Other reason)
strict_kind_of (kind.Macro reason) = Some (kind.Other why.Macro)
strict_kind_of (kind.Other reason) = Some (kind.Other reason)
strict_kind_of _ = None

-- the same with its point
abbrev pub strict_feature_of : Feature → Option Feature
strict_feature_of f = option_map (λ k. record { at = f.at; what = k }) (strict_kind_of f.what)

-- the strict view of flashes and contours of the wide profile, in order
abbrev pub strict_view : List Feature → List Feature
strict_view features = filter_map strict_feature_of features

-- flashes and contours of the wide profile as another profile sees them
abbrev pub view_in : Profile → List Feature → List Feature
view_in Strict features = strict_view features
view_in Wide features = features

-- ---- the pads among them

-- the pad that a flash or a contour is, if it is one
abbrev pub pad_in : FeatureKind → Option WidePad
pad_in (kind.Pad pad) = Some (Plain pad)
pad_in (kind.Shape pad reason) = Some (Rounded pad)
pad_in (kind.Contour pad) = Some (Rounded pad)
pad_in _ = None

-- the pads, in order
abbrev pub pads_of : List Feature → List WidePad
pads_of features = filter_map (λ f. pad_in f.what) features

-- the shape of a flash, most often of a macro, if it is a pad by that
abbrev pub macro_pad : FeatureKind → Option WidePad
macro_pad (kind.Shape pad reason) = Some (Rounded pad)
macro_pad _ = None

-- the pad of a contour, if it is one
abbrev pub contour_pad : FeatureKind → Option WidePad
contour_pad (kind.Contour pad) = Some (Rounded pad)
contour_pad _ = None

-- of the pads of the wide profile the shapes of flashes that another profile does not count
abbrev pub uncounted_macros : Profile → List Feature → List WidePad
uncounted_macros Strict features = filter_map (λ f. macro_pad f.what) features
uncounted_macros Wide features = []

-- and the contours that it does not count
abbrev pub uncounted_contours : Profile → List Feature → List WidePad
uncounted_contours Strict features = filter_map (λ f. contour_pad f.what) features
uncounted_contours Wide features = []

-- it is a flash that is a pad
abbrev pub is_flashed_pad : FeatureKind → Bool
is_flashed_pad (kind.Pad pad) = true
is_flashed_pad (kind.Shape pad reason) = true
is_flashed_pad _ = false

-- it is a flash that is no pad
abbrev pub is_other : FeatureKind → Bool
is_other k = is_none (pad_in k)

-- it is a contour
abbrev pub is_contour : FeatureKind → Bool
is_contour (kind.Contour pad) = true
is_contour _ = false

-- ---- rows

-- what a flash or a contour is, without its pad
abbrev pub row_kind : FeatureKind → RowKind
row_kind (kind.Pad pad) = row.Pad
row_kind (kind.Shape pad reason) = row.Pad
row_kind (kind.Contour pad) = row.Contour
row_kind (kind.Other why) = row.Other why
row_kind (kind.Macro why) = row.Other why
row_kind kind.Clear = row.Clear
row_kind kind.Cleared = row.Cleared

-- the row of a flash or a contour
abbrev pub feature_row : Feature → FeatureRow
feature_row f = record { at = f.at; what = row_kind f.what }

-- the rows of a layer in the wide profile, in the order of its text
abbrev pub rows_of : List Feature → List FeatureRow
rows_of features = map feature_row features

-- ---- counts

-- how many flashes are pads
abbrev pub flashed_count : List Feature → ℕ
flashed_count features = count_by (λ f. is_flashed_pad f.what) features

-- how many contours there are
abbrev pub contour_count : List Feature → ℕ
contour_count features = count_by (λ f. is_contour f.what) features

-- how many flashes are no pads
abbrev pub other_count : List Feature → ℕ
other_count features = count_by (λ f. is_other f.what) features

-- how many flashes and contours there are of each kind
abbrev pub counts_of : List Feature → FeatureCounts
counts_of features = record { flashed = flashed_count features; contours = contour_count features; other = other_count features }
