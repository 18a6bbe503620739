-- What the commands of a layer draw: lines and arcs, flashes of macros, and the contours of regions (docs/FORMATS.md, Pictures).
use Rattle.std.specs.Prelude.{ℤ, pos, ◌+ℤ◌, Bool, true, false, not, ◌&&◌, ◌||◌, List, Option, None, Some, unwrap_or, if◌then◌else◌}
use Rattle.std.specs.Option.{option_and_then, option_map}
use Rattle.std.specs.Ordering.{int_eq}
use Rattle.std.specs.List.{filter_map, list_all}
use Rattle.grid_units.specs.Lists.{last_set, with_prefixes}
use Rattle.grid_units.specs.Points.{GridPoint}
use Rattle.grid_units.specs.Numbers.{is_too_far, picometres}
use Rattle.grid_units.specs.declared.lengths.Unit.{Unit as Units}
use Rattle.pad_shapes.specs.Rounded.{GridRounded, corners}
use Rattle.gerber_commands.specs.declared.command.Action.{Action}
use Rattle.gerber_commands.specs.declared.command.Action.TheVariants as action
use Rattle.gerber_commands.specs.declared.command.Interpolation.{Interpolation}
use Rattle.gerber_commands.specs.declared.command.Interpolation.TheVariants as interpolation
use Rattle.gerber_commands.specs.declared.command.QuadrantMode.{QuadrantMode}
use Rattle.gerber_commands.specs.declared.command.QuadrantMode.TheVariants as quadrant
use Rattle.gerber_commands.specs.declared.command.Command.{Command}
use Rattle.gerber_commands.specs.declared.command.Command.TheVariants as command
use Rattle.gerber_commands.specs.Pieces.{unit_scale}
use Rattle.layer_state.specs.Flashes.{current_decimals, current_unit, is_macro}
use Rattle.layer_state.specs.Lookback.{current_of, state_after}
use Rattle.layer_state.specs.Numbers.{dec_length}
use Rattle.layer_state.specs.Placing.{no_mirroring}
use Rattle.layer_state.specs.Shapes.{selected_after}
use Rattle.layer_state.specs.declared.aperture.Aperture.{Aperture}
use Rattle.layer_state.specs.declared.aperture.Aperture.TheVariants as aperture
use Rattle.layer_state.specs.declared.current.Current.{Current}
use Rattle.layer_state.specs.declared.mirroring.Mirroring.{Mirroring}
use Rattle.layer_state.specs.declared.tables.Defined.{Defined}
use Rattle.pad_shapes.specs.declared.drawn.Drawn.{Drawn}
use Rattle.pad_shapes.specs.declared.drawn.Drawn.TheVariants as drawn

-- ---- what one command names

-- how draws go from point to point: along a line by `G01*`, along an arc by `G02*` or `G03*` (Gerber format, Plot state G01, G02, G03)
abbrev pub mode_set : Command → Option Interpolation
mode_set (command.Mode mode) = Some mode
mode_set _ = None

-- how the centre of an arc is found: in several quadrants by `G75*`, in a single one by `G74*` (Gerber format, G75 and G74)
abbrev pub quadrant_set : Command → Option QuadrantMode
quadrant_set (command.Quadrant mode) = Some mode
quadrant_set _ = None

-- flashes are mirrored along these axes: along x by `%LMX*%`, along none by `%LMN*%` (Gerber format, Load mirroring LM)
abbrev pub mirroring_set : Command → Option Mirroring
mirroring_set (command.Mirror x y) = Some (record { x = x; y = y })
mirroring_set _ = None

-- how the flashes after these commands are mirrored
abbrev pub mirroring_after : List Command → Mirroring
mirroring_after before = unwrap_or (last_set mirroring_set before) no_mirroring

-- ---- the state that a draw meets

-- the state that a draw meets: that of a flash, with the aperture that is selected in place of all that was defined, and what draws need beside it
pub record DrawState : Type 0 where
  pub now : Current
  pub aperture : Option Defined
  pub mode : Interpolation
  pub quadrant : Option QuadrantMode
  pub mirroring : Mirroring

-- Each field is as the last command that names it says. At the start: no aperture, straight lines, no mode of quadrants, no mirror.
abbrev pub draw_state_after : List Command → DrawState
draw_state_after before = record {
  now = current_of (state_after before);
  aperture = selected_after before;
  mode = unwrap_or (last_set mode_set before) interpolation.Linear;
  quadrant = last_set quadrant_set before;
  mirroring = mirroring_after before;
}

-- ---- points and widths

-- a length in pm, unless it is above 10 m
abbrev pub near : ℤ → Option ℤ
near length = if is_too_far length then None else Some length

-- the point of two coordinates, where there are both
abbrev pub point_at : Option ℤ → Option ℤ → Option GridPoint
point_at (Some x) (Some y) = Some (record { x = x; y = y })
point_at _ _ = None

-- the point of two coordinates in steps of the format, in pm; none more than 10 m from zero along an axis, where no draw of a legal list goes
abbrev pub point_of : Current → ℤ → ℤ → Option GridPoint
point_of now x y = point_at (near (picometres (current_unit now) (current_decimals now) x)) (near (picometres (current_unit now) (current_decimals now) y))

-- the current point: that of the last operation (Gerber format, Current point)
abbrev pub current_point : Current → Option GridPoint
current_point now = point_of now now.x now.y

-- the point of an operation; a coordinate left out is the last one (Gerber format, Coordinate data)
abbrev pub operation_point : Current → Option ℤ → Option ℤ → Option GridPoint
operation_point now x y = point_of now (unwrap_or x now.x) (unwrap_or y now.y)

-- a coordinate moved by an offset; an offset left out is 0 (Gerber format, G75 and G74)
abbrev pub with_offset : ℤ → Option ℤ → ℤ
with_offset n offset = n +ℤ unwrap_or offset (pos 0)

-- the centre of an arc in several quadrants: the current point moved by I and J (Gerber format, G75 and G74)
abbrev pub moved_point : Current → Option ℤ → Option ℤ → Option GridPoint
moved_point now i j = point_of now (with_offset now.x i) (with_offset now.y j)

-- the centre of an arc in this mode of quadrants: there is one under `G75*` alone (Gerber format, G75 and G74)
abbrev pub centre_in : Option QuadrantMode → Current → Option ℤ → Option ℤ → Option GridPoint
centre_in (Some quadrant.Multi) now i j = moved_point now i j
centre_in _ now i j = None

-- the centre of an operation, if it draws an arc (Gerber format, G75 and G74)
abbrev pub arc_centre : DrawState → Option ℤ → Option ℤ → Option GridPoint
arc_centre s i j = centre_in s.quadrant s.now i j

-- the width of a line: the diameter of a round aperture without a hole, in pm, at most 10 m (Gerber format, Circle)
abbrev pub width_of : Units → Aperture → Option ℤ
width_of unit (aperture.Circle diameter false) = near (dec_length unit diameter)
width_of unit _ = None

-- the width of lines that are drawn with the selected aperture; none while apertures are scaled (Gerber format, Load scaling LS)
abbrev pub line_width : DrawState → Option ℤ
line_width s = if int_eq s.now.scale unit_scale then option_and_then (λ (d : Defined). width_of (current_unit s.now) d.aperture) s.aperture else None

-- ---- flashes of macros

-- nothing is scaled, turned or mirrored (Gerber format, Aperture transformations LP, LM, LR, LS)
abbrev pub is_plain : DrawState → Bool
is_plain s = (int_eq s.now.scale unit_scale && int_eq s.now.turn (pos 0)) && not (s.mirroring.x || s.mirroring.y)

-- the shape of the aperture that is selected, where it has one
abbrev pub selected_shape : DrawState → Option GridRounded
selected_shape s = option_and_then (λ (d : Defined). d.shape) s.aperture

-- the shape of an aperture that is a macro, where it has one (Gerber format, Aperture macro AM)
abbrev pub shape_of_macro : Defined → Option GridRounded
shape_of_macro d = if is_macro d.aperture then d.shape else None

-- the shape that is flashed with the selected macro, while nothing is scaled, turned or mirrored
abbrev pub flash_shape : DrawState → Option GridRounded
flash_shape s = if is_plain s then option_and_then shape_of_macro s.aperture else None

-- a corner about the point of a flash lies at most 10 m from zero along each axis
abbrev pub stays_near : GridPoint → GridPoint → Bool
stays_near at corner = not (is_too_far (at.x +ℤ corner.x)) && not (is_too_far (at.y +ℤ corner.y))

-- a shape at the point of a flash, where each of its corners is near
abbrev pub flash_of : GridPoint → GridRounded → Option Drawn
flash_of at shape = if list_all (stays_near at) (corners shape) then Some (drawn.Flash at shape) else None

-- a flash of a shape, where its point is near and there is one (Gerber format, Operations D01, D02, D03)
abbrev pub drawn_by_flash : Option GridPoint → Option GridRounded → Option Drawn
drawn_by_flash (Some at) (Some shape) = flash_of at shape
drawn_by_flash _ _ = None

-- ---- what is drawn

-- a line from one point to another, where both are near and it has a width
abbrev pub line_between : Option GridPoint → Option GridPoint → Option ℤ → Option Drawn
line_between (Some from) (Some to) (Some width) = Some (drawn.Line from to width)
line_between _ _ _ = None

-- an arc round a centre from one point to another, where all three are near and it has a width
abbrev pub arc_between : Bool → Option GridPoint → Option GridPoint → Option GridPoint → Option ℤ → Option Drawn
arc_between clockwise (Some from) (Some to) (Some centre) (Some width) = Some (drawn.Arc from to centre width clockwise)
arc_between _ _ _ _ _ = None

-- a plot draws from the current point: a line by `G01`, an arc by `G02` (clockwise) or `G03` (Gerber format, Plot state G01, G02, G03)
abbrev pub drawn_by_plot : DrawState → Interpolation → Option GridPoint → Option GridPoint → Option Drawn
drawn_by_plot s interpolation.Linear to centre = line_between (current_point s.now) to (line_width s)
drawn_by_plot s interpolation.Clockwise to centre = arc_between true (current_point s.now) to centre (line_width s)
drawn_by_plot s interpolation.Counterclockwise to centre = arc_between false (current_point s.now) to centre (line_width s)

-- outside of regions `D01` draws a line or an arc to its point, and `D03` the shape of a macro (Gerber format, Operations D01, D02, D03)
abbrev pub outside_region : DrawState → Action → Option GridPoint → Option GridPoint → Option Drawn
outside_region s action.Plot to centre = drawn_by_plot s s.mode to centre
outside_region s action.Move to centre = None
outside_region s action.Flash to centre = drawn_by_flash to (flash_shape s)

-- the next part of a contour along an arc: round its centre from the current point, where both are near, else straight to its end
abbrev pub bend_between : Bool → Option GridPoint → GridPoint → Option GridPoint → Drawn
bend_between clockwise (Some from) to (Some centre) = drawn.Bend from to centre clockwise
bend_between _ _ to _ = drawn.Corner to

-- a contour goes on straight by `G01`, along an arc by `G02` (clockwise) or `G03` (Gerber format, Plot state G01, G02, G03)
abbrev pub next_part : DrawState → Interpolation → GridPoint → Option GridPoint → Drawn
next_part s interpolation.Linear to centre = drawn.Corner to
next_part s interpolation.Clockwise to centre = bend_between true (current_point s.now) to centre
next_part s interpolation.Counterclockwise to centre = bend_between false (current_point s.now) to centre

-- inside a region `D02` begins a contour at its point, and `D01` goes on to its own (Gerber format, Region statement G36/G37)
abbrev pub contour_part : DrawState → Action → GridPoint → Option GridPoint → Option Drawn
contour_part s action.Move to centre = Some (drawn.Contour to)
contour_part s action.Plot to centre = Some (next_part s s.mode to centre)
contour_part s action.Flash to centre = None

-- what an operation inside a region draws, where its point is near
abbrev pub inside_region : DrawState → Action → Option GridPoint → Option GridPoint → Option Drawn
inside_region s action (Some to) centre = contour_part s action to centre
inside_region s action None centre = None

-- what an operation draws, by its point and the centre of its arc
abbrev pub drawn_by_operation : DrawState → Action → Option GridPoint → Option GridPoint → Option Drawn
drawn_by_operation s action to centre = if s.now.in_region then inside_region s action to centre else outside_region s action to centre

-- What a command draws in the state that it meets. A region begins with a contour at the current point, in case its first operation is `D01`.
-- Of a step and repeat block the first copy alone is drawn.
abbrev pub drawn_by : DrawState → Command → Option Drawn
drawn_by s command.RegionStart = option_map drawn.Contour (current_point s.now)
drawn_by s (command.Operate action x y i j) = drawn_by_operation s action (operation_point s.now x y) (arc_centre s i j)
drawn_by s _ = None

-- what a list of commands draws, in order
abbrev pub drawn_of : List Command → List Drawn
drawn_of commands = filter_map (λ p. drawn_by (draw_state_after p.0) p.1) (with_prefixes commands)
