-- The pads that the commands of a layer make in the wide profile (docs/FORMATS.md, Further copper; Clear polarity). No unit, format, aperture or macro
-- is ever assumed.
use Rattle.std.specs.Prelude.{◌≡◌, ◌&&◌, ◌==◌, ℕ, ℤ, List, [], ◌∷◌, ◌++◌, map, Option, None, Some, unwrap_or, option_and_then, option_map, if◌then◌else◌}
use Rattle.std.specs.Bool.{MatchBool}
use Rattle.std.specs.Option.{option_or}
use Rattle.std.specs.List.{filter_map}
use Rattle.grid_units.specs.Points.{GridPoint}
use Rattle.grid_units.specs.Numbers.{picometres}
use Rattle.grid_units.specs.Lists.{last_set, with_prefixes}
use Rattle.grid_units.specs.declared.lengths.Unit.{Unit as Units}
use Rattle.pad_shapes.specs.Placed.{shape_at}
use Rattle.pad_shapes.specs.Rounded.{GridRounded}
use Rattle.pad_shapes.specs.declared.wide_pad.WidePad.{WidePad}
use Rattle.pad_shapes.specs.declared.wide_pad.WidePad.TheVariants.{Plain, Rounded}
use Rattle.macro_shapes.specs.Pieces.{MacroAnswer}
use Rattle.macro_shapes.specs.Primitives.{grid_point}
use Rattle.gerber_commands.specs.declared.command.Action.TheVariants as action
use Rattle.gerber_commands.specs.declared.command.Interpolation.TheVariants.{Linear}
use Rattle.gerber_commands.specs.declared.command.Format.{Format}
use Rattle.gerber_commands.specs.declared.command.StepRepeat.{StepRepeat}
use Rattle.gerber_commands.specs.declared.command.Template.{Template}
use Rattle.gerber_commands.specs.declared.command.Template.TheVariants as template
use Rattle.gerber_commands.specs.declared.command.Command.{Command}
use Rattle.gerber_commands.specs.declared.command.Command.TheVariants as command
use Rattle.layer_state.specs.declared.aperture.Aperture.{Aperture}
use Rattle.layer_state.specs.Lookback.{GraphicsState, aperture_selected, state_after, unit_set}
use Rattle.layer_state.specs.Pads.{MayFlash, copies_in, flashed_at}
use Rattle.layer_state.specs.Placing.{shapes_at}
use Rattle.layer_state.specs.Shapes.{macro_set, primitives_shape, standard_shape, within_limits}
use Rattle.layer_features.specs.Clearing.{is_clear_after, positions_after_clearing}
use Rattle.layer_features.specs.Contours.{PlotState, contour_of, region_parts}
use Rattle.layer_features.specs.Drawn.{mirroring_after, mode_set, quadrant_set}
use Rattle.layer_features.specs.FurtherPads.{ended_regions, is_room, shape_by}

-- ---- the shape of an aperture

-- the shape of a macro of these pieces, in this unit, with the parameters of an aperture: that of its primitives, where it has one; none without a unit
-- or pieces (Gerber format, Aperture macro AM)
abbrev pub IsMacroShape : Option Units → Option (List (List ℕ)) → Option (List ℕ) → Option GridRounded → Type 0
IsMacroShape (Some unit) (Some pieces) parameters shape = (answer : MacroAnswer pieces parameters) × (shape ≡ primitives_shape unit answer.primitives)
IsMacroShape _ _ parameters shape = shape ≡ None

-- the template that a command gives an aperture of this number, with the commands before it (Gerber format, Aperture definition AD)
abbrev pub template_set : ℕ → List Command × Command → Option (List Command × Template)
template_set number (before, command.Define other template) = if number == other then Some (before, template) else None
template_set number _ = None

-- the shape of an aperture by its template, by the unit where the aperture was defined: of a macro within the limits of numbers and bytes, by the pieces that stood there
abbrev pub IsTemplateShape : ℕ → Option (List Command × Template) → Option GridRounded → Type 0
IsTemplateShape number (Some (before, template.Named name parameters)) shape =
    IsMacroShape (last_set unit_set before) (within_limits number (last_set (macro_set name) before)) parameters shape
IsTemplateShape number (Some (before, template.Standard which sizes)) shape = shape ≡ standard_shape (last_set unit_set before) which sizes
IsTemplateShape number None shape = shape ≡ None

-- the shape of the aperture that is selected, by its last definition (Gerber format, Current aperture Dnn)
abbrev pub IsSelectedShape : List Command → Option GridRounded → Type 0
IsSelectedShape before shape =
    (number : ℕ) × (last_set aperture_selected before ≡ Some number) × IsTemplateShape number (last_set (template_set number) (with_prefixes before)) shape

-- ---- the pads of a flash

-- the pad of a flash at a point: the one of the strict profile, and where it has none, the shape of its aperture, mirrored, then turned, then moved there
-- (Gerber format, Aperture transformations LP, LM, LR, LS)
abbrev pub wide_pad_at : Units → List Command → Aperture → Option GridRounded → GridPoint → Option WidePad
wide_pad_at unit before selected shape p =
    option_or (option_map Plain (flashed_at unit (state_after before) selected p))
    (option_map Rounded (option_and_then (λ t. shape_at t p) (shape_by (state_after before).scale (state_after before).turn (mirroring_after before) shape)))

-- the pads of a flash with these coordinates: of each copy, in order, the pad that it leaves there, if any (Gerber format, Operations D01, D02, D03)
abbrev pub AreWideFlashPads : List Command → Option ℤ → Option ℤ → List WidePad → Type 0
AreWideFlashPads before x y made =
    (unit : Units) × (format : Format) × (selected : Aperture) × (shape : Option GridRounded)
    × MayFlash (state_after before) unit format selected × IsSelectedShape before shape
    × (made ≡ filter_map (wide_pad_at unit before selected shape) (copies_in unit format (state_after before) x y))

-- ---- the pads of a region

-- the point of coordinates, in pm: one left out is the last one; none before a unit and a format, or more than 10 m from zero along an axis
abbrev pub point_in : Option Units → Option Format → GraphicsState → Option ℤ → Option ℤ → Option GridPoint
point_in (Some unit) (Some format) s x y = grid_point (picometres unit format.decimals (unwrap_or x s.x)) (picometres unit format.decimals (unwrap_or y s.y))
point_in _ _ s x y = None

-- what a plot after these commands meets in a region; at the start draws are straight (Gerber format, Plot state G01, G02, G03; G75 and G74)
abbrev pub plot_state_after : List Command → PlotState
plot_state_after before = record {
  in_region = (state_after before).in_region;
  mode = unwrap_or (last_set mode_set before) Linear;
  quadrant = last_set quadrant_set before;
  point = point_in (state_after before).unit (state_after before).format (state_after before);
}

-- the contour of the region that ends after these commands, where there is room for it (Gerber format, Region statement G36/G37)
abbrev pub contour_after : List Command → Option GridRounded
contour_after before =
    if (state_after before).in_region && is_room (ended_regions before) (state_after before).block
    then contour_of (region_parts plot_state_after before) else None

-- a contour at each copy of a block (Gerber format, Step and repeat SR)
abbrev pub contours_at : Option Units → StepRepeat → Option GridRounded → List GridRounded
contours_at (Some unit) block (Some contour) = shapes_at unit block contour
contours_at _ block _ = []

-- ---- all pads of a list

-- the pads of a command after others in dark polarity: those of a flash, or of a region that ends; of any other command, none
abbrev pub AreDarkPads : List Command → Command → List WidePad → Type 0
AreDarkPads before (command.Operate action.Flash x y i j) made = AreWideFlashPads before x y made
AreDarkPads before command.RegionEnd made = made ≡ map Rounded (contours_at (state_after before).unit (state_after before).block (contour_after before))
AreDarkPads before _ made = made ≡ []

-- the pads of commands, each with all commands before it: those of each, in order; in clear polarity none (Gerber format, Load polarity LP)
abbrev pub AreWidePadsAt : List (List Command × Command) → List WidePad → Type 0
AreWidePadsAt [] made = made ≡ []
AreWidePadsAt (p ∷ ps) made =
    (first more : List WidePad) × (made ≡ first ++ more) × MatchBool (is_clear_after p.0) (first ≡ []) (AreDarkPads p.0 p.1 first) × AreWidePadsAt ps more

-- The pads of a list of commands, in order: those of the commands that count, which stand after the last one at which clear polarity takes all away.
-- Where one of these is a flash in a region, or before a unit, a format or an aperture, there is no such list.
abbrev pub AreWidePads : List Command → List WidePad → Type 0
AreWidePads commands made = AreWidePadsAt (positions_after_clearing commands) made
