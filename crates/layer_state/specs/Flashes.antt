-- The flashes of a list of commands, one for each copy (docs/FORMATS.md, Point, state and copies; Flashes and pads).
use Rattle.std.specs.Prelude.{ℕ, zero, suc, ◌*◌, ◌%◌, ℤ, pos, ◌+ℤ◌, ◌*ℤ◌, Bool, true, false, not, ◌==◌, List, [], ◌∷◌, ◌++◌, map, count_by, Option, None, Some, unwrap_or, if◌then◌else◌, unsigned_abs}
use Rattle.std.specs.Option.{option_map_or}
use Rattle.std.specs.Ordering.{int_eq}
use Rattle.std.specs.List.{flat_map, filter_map, find}
use Rattle.grid_units.specs.Lists.{with_prefixes}
use Rattle.grid_units.specs.Points.{GridPoint}
use Rattle.grid_units.specs.Numbers.{picometres}
use Rattle.grid_units.specs.declared.lengths.Unit.{Unit as Units}
use Rattle.grid_units.specs.declared.lengths.Unit.TheVariants.{Millimetre}
use Rattle.pad_shapes.specs.Shapes.{GridDisc, GridRect, GridObround}
use Rattle.pad_shapes.specs.declared.pad.Pad.{Pad}
use Rattle.pad_shapes.specs.declared.pad.Pad.TheVariants as pads
use Rattle.gerber_commands.specs.declared.command.Format.{Format}
use Rattle.gerber_commands.specs.declared.command.StepRepeat.{StepRepeat}
use Rattle.gerber_commands.specs.declared.command.Action.{Action}
use Rattle.gerber_commands.specs.declared.command.Action.TheVariants as action
use Rattle.gerber_commands.specs.declared.command.Command.{Command}
use Rattle.gerber_commands.specs.declared.command.Command.TheVariants as command
use Rattle.layer_state.specs.declared.grid.CopyGrid.{CopyGrid}
use Rattle.layer_state.specs.declared.aperture.Aperture.{Aperture}
use Rattle.layer_state.specs.declared.aperture.Aperture.TheVariants as aperture
use Rattle.layer_state.specs.declared.current.Current.{Current}
use Rattle.pad_shapes.specs.declared.row.Why.{Why}
use Rattle.pad_shapes.specs.declared.row.Why.TheVariants as why
use Rattle.layer_state.specs.declared.flash.What.{What}
use Rattle.layer_state.specs.declared.flash.What.TheVariants as what
use Rattle.layer_state.specs.declared.flash.Flash.{Flash}
use Rattle.layer_state.specs.Lookback.{GraphicsState, state_after, current_aperture, current_of}
use Rattle.layer_state.specs.Numbers.{dec_length, half_length}
use Rattle.gerber_commands.specs.Pieces.{unit_scale}

-- ---- copies

-- the numbers below n, from 0 up
abbrev pub numbers_below : ℕ → List ℕ
numbers_below zero = []
numbers_below (suc n) = numbers_below n ++ n ∷ []

-- the copy in a column and a row, both from 0 (Gerber format, Step and repeat SR)
abbrev pub copy_at : CopyGrid → ℕ → ℕ → GridPoint
copy_at grid u v = record { x = grid.x +ℤ pos u *ℤ grid.step_x; y = grid.y +ℤ pos v *ℤ grid.step_y }

-- the copies of a point: column by column, and in each column row by row
abbrev pub copies : CopyGrid → List GridPoint
copies grid = flat_map (λ u. map (copy_at grid u) (numbers_below grid.rows)) (numbers_below grid.columns)

-- ---- what is flashed

-- 90 degrees, in units of 10^-8 degrees
abbrev pub quarter : ℕ
quarter = 9000000000

-- the aperture is made by a macro (Gerber format, Aperture macro AM)
abbrev pub is_macro : Aperture → Bool
is_macro aperture.Macro = true
is_macro _ = false

-- the aperture is a regular polygon (Gerber format, Polygon)
abbrev pub is_polygon : Aperture → Bool
is_polygon aperture.Polygon = true
is_polygon _ = false

-- the aperture has a hole (Gerber format, Standard aperture templates)
abbrev pub is_holed : Aperture → Bool
is_holed (aperture.Circle diameter holed) = holed
is_holed (aperture.Rectangle width height holed) = holed
is_holed (aperture.Obround width height holed) = holed
is_holed _ = false

-- the reason keeps a flash of the aperture, at this scale and turn, from being a pad
abbrev pub rules_out_pad : Aperture → ℤ → ℤ → Why → Bool
rules_out_pad shape scale turn why.Macro = is_macro shape
rules_out_pad shape scale turn why.Polygon = is_polygon shape
rules_out_pad shape scale turn why.Holed = is_holed shape
rules_out_pad shape scale turn why.Scaled = not (int_eq scale unit_scale)
rules_out_pad shape scale turn why.Turned = not (unsigned_abs turn % quarter == 0)

-- the reasons in the order in which they are looked for; the first that applies is reported
abbrev pub why_order : List Why
why_order = why.Macro ∷ why.Polygon ∷ why.Holed ∷ why.Scaled ∷ why.Turned ∷ []

-- an odd multiple of 90 degrees, such as `%LR90*%` or `%LR-270*%`, under which width and height change places
abbrev pub swaps_sides : ℤ → Bool
swaps_sides turn = unsigned_abs turn % (2 * quarter) == quarter

-- half of a size, in pm; no size of a legal list is below 0
abbrev pub half : Units → ℤ → ℕ
half unit size = unsigned_abs (half_length unit size)

-- the disc of a diameter round a point (Gerber format, Circle)
abbrev pub disc_at : GridPoint → Units → ℤ → GridDisc
disc_at p unit diameter = record { centre = p; radius = half unit diameter }

-- the rectangle of a width and a height round a point (Gerber format, Rectangle)
abbrev pub rect_at : GridPoint → Units → ℤ → ℤ → GridRect
rect_at p unit width height = record { centre = p; half_x = half unit width; half_y = half unit height }

-- the obround of a width and a height round a point (Gerber format, Obround)
abbrev pub obround_at : GridPoint → Units → ℤ → ℤ → GridObround
obround_at p unit width height = record { centre = p; half_x = half unit width; half_y = half unit height }

-- the disc, rectangle or obround of an aperture at a point, its sides exchanged by an odd quarter of a turn
abbrev pub shape_at : GridPoint → Units → ℤ → Aperture → What
shape_at p unit turn (aperture.Circle diameter holed) = what.Pad (pads.Disc (disc_at p unit diameter))
shape_at p unit turn (aperture.Rectangle width height holed) = what.Pad (pads.Rect (if swaps_sides turn then rect_at p unit height width else rect_at p unit width height))
shape_at p unit turn (aperture.Obround width height holed) = what.Pad (pads.Obround (if swaps_sides turn then obround_at p unit height width else obround_at p unit width height))
shape_at p unit turn aperture.Polygon = what.Other why.Polygon
shape_at p unit turn aperture.Macro = what.Other why.Macro

-- what an aperture leaves at a point: a pad, or the first reason that keeps it from being one
abbrev pub what_at : GridPoint → Units → ℤ → ℤ → Aperture → What
what_at p unit scale turn shape = option_map_or what.Other (find (rules_out_pad shape scale turn) why_order) (shape_at p unit turn shape)

-- ---- at a position

-- the unit that was named; no operation is legal before one is
abbrev pub current_unit : Current → Units
current_unit now = unwrap_or now.unit Millimetre

-- the decimals of the format that was named; no operation is legal before one is
abbrev pub current_decimals : Current → ℕ
current_decimals now = option_map_or (λ (f : Format). f.decimals) now.format 0

-- The point of an operation and the block that is open, in pm. Each coordinate is the one that the operation names, else the last
-- one named before it, else 0.
abbrev pub grid_at : GraphicsState → Option ℤ → Option ℤ → CopyGrid
grid_at s x y = record {
  x = picometres (current_unit (current_of s)) (current_decimals (current_of s)) (unwrap_or x s.x);
  y = picometres (current_unit (current_of s)) (current_decimals (current_of s)) (unwrap_or y s.y);
  columns = s.block.columns;
  rows = s.block.rows;
  step_x = dec_length (current_unit (current_of s)) s.block.step_x;
  step_y = dec_length (current_unit (current_of s)) s.block.step_y;
}

-- the points of an operation, one for each copy
abbrev pub copies_at : GraphicsState → Option ℤ → Option ℤ → List GridPoint
copies_at s x y = copies (grid_at s x y)

-- a flash of the aperture at a point
abbrev pub flash_at : GraphicsState → Aperture → GridPoint → Flash
flash_at s shape p = record { at = p; what = what_at p (current_unit (current_of s)) s.scale s.turn shape }

-- the flashes of the aperture, one for each copy
abbrev pub aperture_flashes : GraphicsState → Option ℤ → Option ℤ → Aperture → List Flash
aperture_flashes s x y shape = map (flash_at s shape) (copies_at s x y)

-- the operation is a flash (`D03`), and no draw or move (Gerber format, Operations D01, D02, D03)
abbrev pub is_flash : Action → Bool
is_flash action.Flash = true
is_flash _ = false

-- the flashes that a command adds: an operation `D03` those of the selected aperture, any other command none
abbrev pub added_flashes : GraphicsState → Command → List Flash
added_flashes s (command.Operate action x y i j) = if is_flash action then option_map_or (aperture_flashes s x y) (current_aperture s) [] else []
added_flashes s _ = []

-- how many flashes a command makes in a block: one for each copy of a flash
abbrev pub flash_copies : StepRepeat → Command → ℕ
flash_copies block (command.Operate action x y i j) = if is_flash action then block.columns * block.rows else 0
flash_copies block _ = 0

-- ---- over a whole list

-- the flashes of a list of commands, in order
abbrev pub flashes_of : List Command → List Flash
flashes_of commands = flat_map (λ p. added_flashes (state_after p.0) p.1) (with_prefixes commands)

-- the pad that a flash leaves, if it leaves one
abbrev pub pad_in : What → Option Pad
pad_in (what.Pad pad) = Some pad
pad_in (what.Other why) = None

-- the pads among the flashes, in order
abbrev pub pads_of : List Flash → List Pad
pads_of flashes = filter_map (λ flash. pad_in flash.what) flashes

-- a flash leaves something else than a pad
abbrev pub is_other : What → Bool
is_other (what.Pad pad) = false
is_other (what.Other why) = true

-- how many of the flashes are no pads
abbrev pub other_count : List Flash → ℕ
other_count flashes = count_by (λ flash. is_other flash.what) flashes
