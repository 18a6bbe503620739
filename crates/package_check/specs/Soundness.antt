-- When a package is sound: what its files say as they are written, by the grammars of their formats, and what holds of that.
use Rattle.std.specs.Prelude.{◌≡◌, ◌≤◌, ◌<◌, ℕ, Bool, true, false, not, List, [], map, length, get_or, count_by, Option, None, Some, ⊤}
use Rattle.std.specs.List.{AllPairs, AllZip, Contains, filter, flat_map}
use Rattle.grid_units.specs.Holes.{GridHole, GridRules, AreClear}
use Rattle.grid_units.specs.Lists.{last_set}
use Rattle.grid_units.specs.Spans.{LayerSpan, is_in_span}
use Rattle.grid_units.specs.declared.profile.Profile.{Profile}
use Rattle.grid_units.specs.declared.profile.Profile.TheVariants.{Strict, Wide}
use Rattle.pad_shapes.specs.declared.pad.Pad.{Pad}
use Rattle.pad_shapes.specs.Shapes.{IsAxisAligned}
use Rattle.pad_shapes.specs.WidePads.{IsInWidePad}
use Rattle.pad_shapes.specs.declared.wide_pad.WidePad.{WidePad}
use Rattle.layer_features.specs.WidePads.{AreWidePads}
use Rattle.ring_rules.specs.declared.finding.Drilled.{Drilled}
use Rattle.ring_rules.specs.WithoutFindings.{IsHoleHeld}
use Rattle.gerber_commands.specs.declared.command.Command.{Command}
use Rattle.gerber_text.specs.Grammar as gerber
use Rattle.layer_state.specs.FileFunction.{function_set}
use Rattle.layer_state.specs.Pads.{ArePads}
use Rattle.drill_lines.specs.declared.command.DrillCommand.{DrillCommand}
use Rattle.drill_text.specs.Grammar as drill
use Rattle.drill_text.specs.Drilling.{AreHoles}
use Rattle.drill_text.specs.Plating.{AreCalled}
use Rattle.manifest.specs.declared.Role.{Role}
use Rattle.manifest.specs.declared.Role.TheVariants as role
use Rattle.package_check.specs.FileTexts.{format_in, is_copper_function, holes_with_platings}
use Rattle.pad_shapes.specs.declared.wide_pad.WidePad.TheVariants.{Plain}
use Rattle.package_check.specs.Package.{FileView, IsReport, is_copper}
use Rattle.package_check.specs.Reports.{ReportView}

-- a span lies within so many layers, which are numbered from 1; without one the holes go through all
abbrev pub IsRun : ℕ → Option LayerSpan → Type 0
IsRun layers None = ⊤
IsRun layers (Some span) = (1 ≤ span.first) × (span.first ≤ span.last) × (span.last ≤ layers)

-- Commands make just these pads. In the strict profile they are the flashes of standard apertures. In the wide one they are these, the flashes of macros that have a
-- shape, and the closed convex contours of regions, in the order of the commands: those that no clear polarity takes away.
abbrev pub MakePads : Profile → List Command → List WidePad → Type 0
MakePads Strict commands made = (pads : List Pad) × ArePads commands pads × (made ≡ map Plain pads)
MakePads Wide commands made = AreWidePads commands made

-- a copper file says these pads: its bytes are a Gerber text of commands that make just these, and the last file function among the commands, if any, is that of copper; no
-- span is named for it
pub record SaysPads (file : FileView) (pads : List WidePad) : Type 0 where
  pub commands : List Command
  pub written : gerber.IsTextIn file.setting.profile file.bytes commands
  pub made : MakePads file.setting.profile commands pads
  pub copper : is_copper_function (last_set function_set commands) ≡ true
  pub spanless : file.said.span ≡ None

-- Holes of a drill file with their platings and its span: each hole of a file has the plating that the file's role says, and each of a mixed file is plated or unplated
-- as the comment before the definition of its tool calls it. No drill file has the role Copper, and only the wide profile reads one with the role Mixed.
abbrev pub AreDrilledBy : Role → Option LayerSpan → List DrillCommand → List GridHole → List Drilled → Type 0
AreDrilledBy role.Mixed span commands holes drilled = (plated : List Bool) × AreCalled commands plated × (drilled ≡ holes_with_platings span holes plated)
AreDrilledBy role.Plated span commands holes drilled = drilled ≡ map (λ hole. record { hole = hole; plated = true; span = span }) holes
AreDrilledBy _ span commands holes drilled = drilled ≡ map (λ hole. record { hole = hole; plated = false; span = span }) holes

-- a drill file says these holes: its bytes are a text of commands by the grammar of the profile, after what is said of its
-- coordinates beside it, these drill just the holes, and they have their platings and the span of
-- the file, which lies within the layers of the package
pub record SaysHoles (file : FileView) (drilled : List Drilled) : Type 0 where
  pub commands : List DrillCommand
  pub written : drill.IsText file.setting.profile (format_in file.setting.profile file.said.format) file.bytes commands
  pub holes : List GridHole
  pub made : AreHoles commands holes
  pub run : IsRun file.setting.layers file.said.span
  pub is : AreDrilledBy file.role file.said.span commands holes drilled

-- a hole lies as the profile allows: in the strict one it is round or a slot along an axis, in the wide one a slot may lie at any angle
abbrev pub LiesAsAllowed : Profile → GridHole → Type 0
LiesAsAllowed Strict hole = IsAxisAligned hole.from hole.to
LiesAsAllowed Wide hole = ⊤

-- Each copper file says the pads of a layer, and each drill file holes. On each layer of its span each plated hole, round or a slot, lies as the profile allows, and one pad of
-- the layer holds it, with the ring round each point between its ends. Two holes, of whatever files, are clear: their cores (the centre, the line
-- between the ends, of an oblique slot their box) are both radii and the gap apart, so that no points of them are nearer than the gap (ring_rules, `clear_holes_are_apart`).
pub record IsSound (sources : List FileView) (rules : GridRules) : Type 0 where
  pub layers : List (List WidePad)
  pub drills : List (List Drilled)
  pub pads : AllZip SaysPads (filter (λ file. is_copper file.role) sources) layers
  pub holes : AllZip SaysHoles (filter (λ file. not (is_copper file.role)) sources) drills
  pub held : (layer : ℕ) (d : Drilled) → layer < length layers → Contains (flat_map (λ one. one) drills) d → d.plated ≡ true → is_in_span layer d.span ≡ true
      → LiesAsAllowed rules.profile d.hole × IsHoleHeld IsInWidePad rules.ring (get_or layers layer []) d.hole
  pub gaps : AllPairs (λ a b. AreClear rules.gap a.hole b.hole) (flat_map (λ one. one) drills)

-- each plated slot that a drill file says lies along an axis, whatever layers its span has
abbrev pub AreStraight : List FileView → Type 0
AreStraight sources =
    (file : FileView) (drilled : List Drilled) (d : Drilled) → Contains sources file → SaysHoles file drilled → Contains drilled d → d.plated ≡ true → IsAxisAligned d.hole.from d.hole.to

-- In the strict profile a sound package with at least one layer has no oblique plated slot: each is one of those that `IsSound` holds, as its span is a run of the
-- layers. Each file is read as one of a package of so many layers as it has copper files.
abbrev pub SoundIsStraight : Type 0
SoundIsStraight = (sources : List FileView) (rules : GridRules) → rules.profile ≡ Strict → ((file : FileView) → Contains sources file → file.setting.layers ≡ count_by (λ one. is_copper one.role) sources)
    → 0 < count_by (λ one. is_copper one.role) sources → IsSound sources rules → AreStraight sources

-- a copper file says at most one list of pads
abbrev pub PadsAreSaidOnce : Type 0
PadsAreSaidOnce = (file : FileView) (a b : List WidePad) → SaysPads file a → SaysPads file b → a ≡ b

-- a drill file says at most one list of holes
abbrev pub HolesAreSaidOnce : Type 0
HolesAreSaidOnce = (file : FileView) (a b : List Drilled) → SaysHoles file a → SaysHoles file b → a ≡ b

-- a package whose report has no finding is sound
abbrev pub PassingIsSound : Type 0
PassingIsSound = (sources : List FileView) (rules : GridRules) (report : ReportView) → IsReport sources rules report → report.findings ≡ []
    → IsSound sources rules
