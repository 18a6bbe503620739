-- The pads that the commands of a layer flash (docs/FORMATS.md, Flashes and pads).
use Rattle.std.specs.Prelude.{◌≡◌, ℕ, ◌<◌, ◌%◌, ℤ, pos, ◌+ℤ◌, ◌*ℤ◌, Bool, false, ◌&&◌, ◌==◌, List, [], ◌∷◌, ◌++◌, map, Option, None, Some, unwrap_or, if◌then◌else◌, unsigned_abs}
use Rattle.std.specs.Ordering.{int_eq}
use Rattle.std.specs.List.{filter_map, flat_map}
use Rattle.grid_units.specs.Points.{GridPoint}
use Rattle.grid_units.specs.Numbers.{picometres}
use Rattle.grid_units.specs.declared.lengths.Unit.{Unit as Units}
use Rattle.pad_shapes.specs.declared.pad.Pad.{Pad}
use Rattle.pad_shapes.specs.declared.pad.Pad.TheVariants as pads
use Rattle.gerber_commands.specs.declared.command.Format.{Format}
use Rattle.gerber_commands.specs.declared.command.Action.TheVariants as action
use Rattle.gerber_commands.specs.declared.command.Command.{Command}
use Rattle.gerber_commands.specs.declared.command.Command.TheVariants as command
use Rattle.gerber_commands.specs.Pieces.{unit_scale}
use Rattle.layer_state.specs.declared.aperture.Aperture.{Aperture}
use Rattle.layer_state.specs.declared.aperture.Aperture.TheVariants as aperture
use Rattle.layer_state.specs.Lookback.{GraphicsState, state_after, current_aperture}
use Rattle.layer_state.specs.Numbers.{dec_length}
use Rattle.layer_state.specs.Flashes.{numbers_below, quarter, swaps_sides, disc_at, rect_at, obround_at}

-- ---- one flash

-- the pad of an aperture at a point, a disc of `%ADD10C,0.5*%`; none of a macro, a polygon or one with a hole (Gerber format, Aperture definition AD)
abbrev pub pad_at : Units → ℤ → Aperture → GridPoint → Option Pad
pad_at unit turn (aperture.Circle diameter false) p = Some (pads.Disc (disc_at p unit diameter))
pad_at unit turn (aperture.Rectangle width height false) p = Some (pads.Rect (if swaps_sides turn then rect_at p unit height width else rect_at p unit width height))
pad_at unit turn (aperture.Obround width height false) p = Some (pads.Obround (if swaps_sides turn then obround_at p unit height width else obround_at p unit width height))
pad_at unit turn _ p = None

-- flashes are not scaled, and turned by quarters only, as by `%LR90*%` (Gerber format, Load scaling LS; Load rotation LR)
abbrev pub is_plain : GraphicsState → Bool
is_plain s = int_eq s.scale unit_scale && (unsigned_abs s.turn % quarter == 0)

-- the pad that a flash of the aperture leaves at a point; none where it is scaled, or turned by other than quarters
abbrev pub flashed_at : Units → GraphicsState → Aperture → GridPoint → Option Pad
flashed_at unit s shape p = if is_plain s then pad_at unit s.turn shape p else None

-- the copy of an operation's point in a column and a row, in pm; a coordinate left out is the last one (Gerber format, Step and repeat SR)
abbrev pub copy_in : Units → Format → GraphicsState → Option ℤ → Option ℤ → ℕ → ℕ → GridPoint
copy_in unit format s x y u v = record {
  x = picometres unit format.decimals (unwrap_or x s.x) +ℤ pos u *ℤ dec_length unit s.block.step_x;
  y = picometres unit format.decimals (unwrap_or y s.y) +ℤ pos v *ℤ dec_length unit s.block.step_y;
}

-- the copies of the point: column by column, and in each column row by row (Gerber format, Step and repeat SR)
abbrev pub copies_in : Units → Format → GraphicsState → Option ℤ → Option ℤ → List GridPoint
copies_in unit format s x y = flat_map (λ u. map (copy_in unit format s x y u) (numbers_below s.block.rows)) (numbers_below s.block.columns)

-- a flash is allowed in this state: outside of regions, with a unit, a format and an aperture (Gerber format, Operations D01, D02, D03)
pub record MayFlash (s : GraphicsState) (unit : Units) (format : Format) (shape : Aperture) : Type 0 where
  pub outside : s.in_region ≡ false
  pub in_unit : s.unit ≡ Some unit
  pub in_format : s.format ≡ Some format
  pub selected : current_aperture s ≡ Some shape

-- ---- all pads of a list

-- the pads of a flash with these coordinates: of each copy, in order, the pad that it leaves there, if any
abbrev pub AreFlashPads : GraphicsState → Option ℤ → Option ℤ → List Pad → Type 0
AreFlashPads s x y made =
    (unit : Units) × (format : Format) × (shape : Aperture) × MayFlash s unit format shape × (made ≡ filter_map (flashed_at unit s shape) (copies_in unit format s x y))

-- the pads of a command after others: those of a flash, such as `X1000Y0D03*`; of any other command, none
abbrev pub ArePadsOf : List Command → Command → List Pad → Type 0
ArePadsOf before (command.Operate action.Flash x y i j) made = AreFlashPads (state_after before) x y made
ArePadsOf before _ made = made ≡ []

-- the pads of commands that stand after others: those of each command, in order
abbrev pub ArePadsFrom : List Command → List Command → List Pad → Type 0
ArePadsFrom before [] made = made ≡ []
ArePadsFrom before (c ∷ cs) made = (first more : List Pad) × (made ≡ first ++ more) × ArePadsOf before c first × ArePadsFrom (before ++ c ∷ []) cs more

-- the pads of a list of commands, in order; one with a flash in a region, or before a unit, a format or an aperture, has no such list
abbrev pub ArePads : List Command → List Pad → Type 0
ArePads commands made = ArePadsFrom [] commands made

-- ---- one pad of a list

-- a pad of a flash with these coordinates: the one that it leaves at one of its copies
abbrev pub IsFlashPad : GraphicsState → Option ℤ → Option ℤ → Pad → Type 0
IsFlashPad s x y pad =
    (unit : Units) × (format : Format) × (shape : Aperture) × MayFlash s unit format shape
    × (u v : ℕ) × (u < s.block.columns) × (v < s.block.rows) × (flashed_at unit s shape (copy_in unit format s x y u v) ≡ Some pad)

-- a pad of a command after others: one of a flash; any other command has none
abbrev pub IsPadOf : List Command → Command → Pad → Type 0
IsPadOf before (command.Operate action.Flash x y i j) pad = IsFlashPad (state_after before) x y pad
IsPadOf before _ pad = ⊥

-- a pad of some command of the list
abbrev pub IsFlashed : List Command → Pad → Type 0
IsFlashed commands pad = (before after : List Command) × (c : Command) × (commands ≡ before ++ c ∷ after) × IsPadOf before c pad
