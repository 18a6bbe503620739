-- What the bytes of a file say.
use Rattle.std.specs.Prelude.{◌≡◌, ℕ, Bool, true, false, List, [], ◌∷◌, codes, Option, Some, None, Result, Ok, Err}
use Rattle.std.specs.Str.{bytes_eq}
use Rattle.grid_units.specs.Holes.{GridHole}
use Rattle.grid_units.specs.Spans.{LayerSpan}
use Rattle.grid_units.specs.declared.fault.Fault.{Fault}
use Rattle.grid_units.specs.declared.profile.Profile.{Profile}
use Rattle.grid_units.specs.declared.profile.Profile.TheVariants.{Strict, Wide}
use Rattle.gerber_commands.specs.Negative.{first_field}
use Rattle.gerber_text.specs.Writing.{without_places}
use Rattle.drill_text.specs.Holes.{holes_of}
use Rattle.drill_lines.specs.declared.command.CoordinateFormat.{CoordinateFormat}
use Rattle.drill_lines.specs.declared.command.DrillCommand.{DrillCommand}
use Rattle.drill_text.specs.Plating.{contradicts, plated_of}
use Rattle.drill_text.specs.Profiles.{Kind, ReadsAsBy}
use Rattle.drill_text.specs.Texts.{ReadsAs}
use Rattle.drill_text.specs.declared.platings.PlatingKind.{PlatingKind}
use Rattle.drill_text.specs.declared.platings.PlatingKind.TheVariants as plating
use Rattle.layer_image.specs.Layers as layers
use Rattle.layer_image.specs.Layers.{LayerImage}
use Rattle.manifest.specs.declared.Said.{Said}
use Rattle.pad_shapes.specs.declared.drawn.Drawn.{Drawn}
use Rattle.layer_features.specs.DrawnCopper.{drawn_in}
use Rattle.pad_shapes.specs.declared.row.FeatureRow.{FeatureRow}
use Rattle.pad_shapes.specs.declared.wide_pad.WidePad.{WidePad}
use Rattle.gerber_commands.specs.declared.command.Command.{Command}
use Rattle.layer_features.specs.Features.{contour_count, features_of, flashed_count, other_count, pads_of, rows_of, uncounted_contours, uncounted_macros, wide_features_of}
use Rattle.layer_state.specs.FileFunction.{file_function_of}
use Rattle.ring_rules.specs.declared.finding.Drilled.{Drilled}
use Rattle.package_check.specs.ContentViews.{DrillView, LayerView}

-- the first field of a file function is `Copper`, as in `Copper,L1,Top`; a layer without one is taken for copper (docs/FORMATS.md, File function)
abbrev pub is_copper_function : Option (List ℕ) → Bool
is_copper_function None = true
is_copper_function (Some text) = bytes_eq (first_field text) (codes "Copper")

-- what the check keeps of the layer of these commands in a profile
abbrev pub layer_view : Profile → List Command → LayerView
layer_view profile commands = record {
  pads = pads_of (features_of profile commands);
  flashed = flashed_count (features_of profile commands);
  contours = contour_count (features_of profile commands);
  other = other_count (features_of profile commands);
  is_copper = is_copper_function (file_function_of commands);
}

-- in the profile the bytes are the text of a layer, and this is what the check keeps of it
abbrev pub HasLayerView : Profile → List ℕ → LayerView → Type 0
HasLayerView profile bytes view = (layer : LayerImage) × layers.IsLayerIn profile bytes layer × (view ≡ layer_view profile (without_places layer.commands))

-- in the profile the bytes are the text of a layer, and this is what the check keeps of it; or they have this fault
abbrev pub ReadsLayer : Profile → List ℕ → Result LayerView Fault → Type 0
ReadsLayer profile bytes (Ok view) = HasLayerView profile bytes view
ReadsLayer profile bytes (Err fault) = layers.ReadsLayerIn profile bytes (Err fault)

-- in the profile the bytes are the text of a layer, and of its commands this list is made
abbrev pub IsMadeOf : {X : Type 0} → (List Command → List X) → Profile → List ℕ → List X → Type 0
IsMadeOf {X} make profile bytes list = (layer : LayerImage) × layers.IsLayerIn profile bytes layer × (list ≡ make (without_places layer.commands))

-- these are the rows of a layer: its flashes, and in the wide profile its contours too, in the order of the text
abbrev pub HasRows : Profile → List ℕ → List FeatureRow → Type 0
HasRows profile = IsMadeOf (λ commands. rows_of (features_of profile commands)) profile

-- the shapes of macros that it flashes and that the profile does not count as pads
abbrev pub HasMacros : Profile → List ℕ → List WidePad → Type 0
HasMacros profile = IsMadeOf (λ commands. uncounted_macros profile (wide_features_of commands)) profile

-- the contours that the profile does not count as pads
abbrev pub HasContours : Profile → List ℕ → List WidePad → Type 0
HasContours profile = IsMadeOf (λ commands. uncounted_contours profile (wide_features_of commands)) profile

-- the first parts of what its commands draw (docs/FORMATS.md, Pictures)
abbrev pub Draws : Profile → List ℕ → List Drawn → Type 0
Draws profile = IsMadeOf (drawn_in profile) profile

-- by what it is known which holes of a file are plated whose role says of all of them whether they are: in the strict profile by the role alone; in the
-- wide one the words of a file that its role calls unplated are held to that (docs/FORMATS.md, Unplated drill files)
abbrev pub plating_in : Profile → Bool → PlatingKind
plating_in Strict plated = plating.Stated
plating_in Wide true = plating.Stated
plating_in Wide false = plating.Unplated

-- what is heeded of what is said of a drill file's coordinates beside its text: in the strict profile nothing
abbrev pub format_in : Profile → Option CoordinateFormat → Option CoordinateFormat
format_in Strict format = None
format_in Wide format = format

-- the kind of a drill file that its role calls plated or unplated
abbrev pub drill_kind : Profile → Option CoordinateFormat → Bool → Kind
drill_kind profile format plated = record { profile = profile; plating = plating_in profile plated; format = format_in profile format }

-- the kind of a mixed drill file
abbrev pub mixed_kind : Profile → Option CoordinateFormat → Kind
mixed_kind profile format = record { profile = profile; plating = plating.Mixed; format = format_in profile format }

-- what the check keeps of a drill text whose role calls its holes plated or unplated
abbrev pub drill_view : Bool → List DrillCommand → DrillView
drill_view plated commands = record { holes = holes_of commands; contradicted = contradicts plated commands }

-- in the profile the bytes are a drill text whose role calls its holes plated or unplated, and this is what the check keeps of it; or they have this fault
abbrev pub ReadsDrill : Profile → Option CoordinateFormat → Bool → List ℕ → Result DrillView Fault → Type 0
ReadsDrill Strict format plated bytes answer = ReadsAs (drill_view plated) bytes answer
ReadsDrill Wide format plated bytes answer = ReadsAsBy (drill_kind Wide format plated) (drill_view plated) bytes answer

-- holes with this span, each plated or not as the other list says, as long as both lists go on
abbrev pub holes_with_platings : Option LayerSpan → List GridHole → List Bool → List Drilled
holes_with_platings span (hole ∷ holes) (one ∷ plated) = record { hole = hole; plated = one; span = span } ∷ holes_with_platings span holes plated
holes_with_platings span holes plated = []

-- the holes of the commands of a mixed file, each plated as its tool is called, with this span
abbrev pub mixed_holes : Option LayerSpan → List DrillCommand → List Drilled
mixed_holes span commands = holes_with_platings span (holes_of commands) (plated_of commands)

-- in the profile the bytes are a mixed drill text that drills these holes with the span that is said of it, or they have this fault
abbrev pub ReadsMixed : Profile → Said → List ℕ → Result (List Drilled) Fault → Type 0
ReadsMixed profile said bytes answer = ReadsAsBy (mixed_kind profile said.format) (mixed_holes said.span) bytes answer
