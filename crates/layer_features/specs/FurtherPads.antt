-- The further copper that counts as pads: the flashes of apertures by their shapes, and the contours of regions that are convex polygons,
-- each by the state that its command meets (docs/FORMATS.md, Further copper).
use Rattle.std.specs.Prelude.{ℕ, ◌+◌, ℤ, Bool, not, ◌&&◌, ◌||◌, nat_le, List, [], Option, None, is_none, option_and_then, if◌then◌else◌}
use Rattle.std.specs.Ordering.{int_eq}
use Rattle.std.specs.Option.{option_map_or}
use Rattle.std.specs.List.{list_any, sum_by}
use Rattle.grid_units.specs.Points.{GridPoint}
use Rattle.grid_units.specs.Lists.{with_prefixes}
use Rattle.pad_shapes.specs.Rounded.{GridRounded}
use Rattle.macro_shapes.specs.Primitives.{quarter_turns}
use Rattle.gerber_commands.specs.declared.command.StepRepeat.{StepRepeat}
use Rattle.gerber_commands.specs.declared.command.Command.{Command}
use Rattle.gerber_commands.specs.declared.command.Command.TheVariants as command
use Rattle.gerber_commands.specs.Pieces.{unit_scale}
use Rattle.pad_shapes.specs.declared.row.Why.{Why}
use Rattle.pad_shapes.specs.declared.row.Why.TheVariants as why
use Rattle.layer_state.specs.Flashes.{current_unit}
use Rattle.layer_state.specs.Lookback.{state_after}
use Rattle.layer_features.specs.Drawn.{DrawState, draw_state_after, operation_point, selected_shape}
use Rattle.pad_shapes.specs.Placed.{shape_at}
use Rattle.layer_features.specs.declared.clearing.Clearing.{Clearing}
use Rattle.layer_state.specs.declared.mirroring.Mirroring.{Mirroring}
use Rattle.layer_features.specs.declared.part.Part.{Part}
use Rattle.layer_features.specs.Blocks.{copy_count, in_open_block, is_repeated}
use Rattle.layer_features.specs.Clearing.{draws, is_clear_after, is_clearing}
use Rattle.layer_state.specs.Placing.{shapes_at, turned_shape}
use Rattle.layer_features.specs.Contours.{PlotState, contour_of, region_parts}

-- ---- the state that a command meets

-- the copies of the region that a command ends, in this block; none of any other command
abbrev pub ended_copies : StepRepeat → Command → ℕ
ended_copies block command.RegionEnd = copy_count block
ended_copies block _ = 0

-- polarity after these commands, and whether something of the block that is open was drawn in clear polarity
abbrev pub clearing_after : List Command → Clearing
clearing_after before = record { clear = is_clear_after before; in_block = list_any is_clearing (in_open_block (with_prefixes before)) }

-- how many regions ended, each copy counted
abbrev pub ended_regions : List Command → ℕ
ended_regions before = sum_by (λ p. ended_copies (state_after p.0).block p.1) (with_prefixes before)

-- what of this state a plot in a region meets
abbrev pub plot_state : DrawState → PlotState
plot_state s = record { in_region = s.now.in_region; mode = s.mode; quadrant = s.quadrant; point = operation_point s.now }

-- the state that a command meets: what draws need, the parts of the last region, how many regions ended, and polarity
pub record CopperState : Type 0 where
  pub draw : DrawState
  pub parts : List Part
  pub regions : ℕ
  pub clearing : Clearing

-- each field, by looking back over the commands
abbrev pub copper_state_after : List Command → CopperState
copper_state_after before = record {
  draw = draw_state_after before;
  parts = region_parts (λ p. plot_state (draw_state_after p)) before;
  regions = ended_regions before;
  clearing = clearing_after before;
}

-- ---- what a command adds

-- the shape of an aperture as it is flashed, about the point of the flash: mirrored first, and then turned; none where it is scaled (Gerber format, Aperture
-- transformations LP, LM, LR, LS)
abbrev pub shape_by : ℤ → ℤ → Mirroring → Option GridRounded → Option GridRounded
shape_by scale turn mirroring shape = if int_eq scale unit_scale then option_and_then (turned_shape mirroring turn) shape else None

-- the shape that the selected aperture flashes
abbrev pub flash_shape : CopperState → Option GridRounded
flash_shape s = shape_by s.draw.now.scale s.draw.now.turn s.draw.mirroring (selected_shape s.draw)

-- why the flash of a macro whose shape is known is no pad: first it is scaled, then it is turned by no multiple of 90 degrees
abbrev pub why_of_shape : CopperState → Why
why_of_shape s = if not (int_eq s.draw.now.scale unit_scale) then why.Scaled else if is_none (quarter_turns s.draw.now.turn) then why.Turned else why.Macro

-- why the flash of the selected macro is no pad: first its shape is not known
abbrev pub macro_why : CopperState → Why
macro_why s = if is_none (selected_shape s.draw) then why.Macro else why_of_shape s

-- the shape of the selected aperture's flash at a point, where it has one and this may lie there
abbrev pub flashed_pad : CopperState → GridPoint → Option GridRounded
flashed_pad s at = option_and_then (λ shape. shape_at shape at) (flash_shape s)

-- the regions that ended, of any kind and each copy counted, and the copies of one more in this block are no more than the most of a layer: only the contours of
-- the first ones count as pads
abbrev pub is_room : ℕ → StepRepeat → Bool
is_room regions block = nat_le (regions + copy_count block) 4194304

-- there is room for the region that ends here
abbrev pub has_room : CopperState → Bool
has_room s = is_room s.regions s.draw.now.block

-- the contour of the region that ends here, where it counts as a pad; in clear polarity it does not
abbrev pub region_contour : CopperState → Option GridRounded
region_contour s = if s.draw.now.in_region && (not s.clearing.clear && has_room s) then contour_of s.parts else None

-- the contour that a command ends, where it counts as a pad
abbrev pub contour_by : CopperState → Command → Option GridRounded
contour_by s command.RegionEnd = region_contour s
contour_by s _ = None

-- the pads of a command that ends a region: its contour at each copy (Gerber format, Step and repeat SR)
abbrev pub contours_in : CopperState → Command → List GridRounded
contours_in s c = option_map_or (shapes_at (current_unit s.draw.now) s.draw.now.block) (contour_by s c) []

-- at this command all is taken away that was drawn before it
abbrev pub clears_in : CopperState → Command → Bool
clears_in s c = (draws c && s.clearing.clear) || (is_repeated s.draw.now.block && s.clearing.in_block)
