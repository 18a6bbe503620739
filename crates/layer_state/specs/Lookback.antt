-- What the commands before a position say of it: each field is found by looking back over the finished list.
use Rattle.std.specs.Prelude.{ℕ, nat_eq, ℤ, pos, Bool, true, false, ◌==◌, List, Option, None, Some, unwrap_or, if◌then◌else◌, slice_get, drop, int_lt}
use Rattle.std.specs.Option.{option_and_then}
use Rattle.std.specs.List.{list_any}
use Rattle.std.specs.Cmp.Lexicographic.{pointwise}
use Rattle.grid_units.specs.Lists.{last_set}
use Rattle.grid_units.specs.declared.lengths.Unit.{Unit as Units}
use Rattle.gerber_commands.specs.declared.command.Format.{Format}
use Rattle.gerber_commands.specs.declared.command.StepRepeat.{StepRepeat}
use Rattle.gerber_commands.specs.declared.command.Standard.TheVariants as standard
use Rattle.gerber_commands.specs.declared.command.Template.{Template}
use Rattle.gerber_commands.specs.declared.command.Template.TheVariants as template
use Rattle.gerber_commands.specs.declared.command.Command.{Command}
use Rattle.gerber_commands.specs.declared.command.Command.TheVariants as command
use Rattle.layer_state.specs.declared.aperture.Aperture.{Aperture}
use Rattle.layer_state.specs.declared.aperture.Aperture.TheVariants as aperture
use Rattle.layer_state.specs.declared.current.Current.{Current}
use Rattle.gerber_commands.specs.Pieces.{unit_scale}

-- ---- what one command names

-- the unit: millimetres by `%MOMM*%` (Gerber format, Unit MO)
abbrev pub unit_set : Command → Option Units
unit_set (command.UnitIs unit) = Some unit
unit_set _ = None

-- the digits of coordinates: 4 whole and 6 decimals by `%FSLAX46Y46*%` (Gerber format, Format specification FS)
abbrev pub format_set : Command → Option Format
format_set (command.FormatIs format) = Some format
format_set _ = None

-- a region begins with `G36*` and ends with `G37*` (Gerber format, Region statement G36/G37)
abbrev pub region_set : Command → Option Bool
region_set command.RegionStart = Some true
region_set command.RegionEnd = Some false
region_set _ = None

-- the number of the aperture that is selected: 10 by `D10*` (Gerber format, Current aperture Dnn)
abbrev pub aperture_selected : Command → Option ℕ
aperture_selected (command.Select number) = Some number
aperture_selected _ = None

-- the X of an operation that has one: 500 in `X500Y-20D03*` (Gerber format, Coordinate data)
abbrev pub x_set : Command → Option ℤ
x_set (command.Operate action x y i j) = x
x_set _ = None

-- the Y of an operation that has one: -20 in `X500Y-20D03*` (Gerber format, Coordinate data)
abbrev pub y_set : Command → Option ℤ
y_set (command.Operate action x y i j) = y
y_set _ = None

-- how far flashes are turned, in 10^-8 degrees: 9,000,000,000 by `%LR90*%` (Gerber format, Load rotation LR)
abbrev pub turn_set : Command → Option ℤ
turn_set (command.Turn turn) = Some turn
turn_set _ = None

-- the scale of flashes, in units of 10^-8: 50,000,000 by `%LS0.5*%` (Gerber format, Load scaling LS)
abbrev pub scale_set : Command → Option ℤ
scale_set (command.Scale scale) = Some scale
scale_set _ = None

-- no repetition: one column and one row (Gerber format, Step and repeat SR)
abbrev pub no_repeat : StepRepeat
no_repeat = record { columns = 1; rows = 1; step_x = pos 0; step_y = pos 0 }

-- a step and repeat block begins with `%SRX2Y3I5J4*%` and ends with `%SR*%` (Gerber format, Step and repeat SR)
abbrev pub block_set : Command → Option StepRepeat
block_set (command.Repeat block) = Some block
block_set command.RepeatEnd = Some no_repeat
block_set _ = None

-- the parameter at a place, from 0, in units of 10^-8; 0 where it is left out (Gerber format, Standard aperture templates)
abbrev pub size_at : List ℤ → ℕ → ℤ
size_at sizes place = unwrap_or (slice_get sizes place) (pos 0)

-- a parameter from this place on is above 0, which makes a hole: the 0.2 of `%ADD10C,0.5X0.2*%` (Gerber format, Standard aperture templates)
abbrev pub has_hole : List ℤ → ℕ → Bool
has_hole sizes place = list_any (λ size. int_lt (pos 0) size) (drop place sizes)

-- what a flash needs of an aperture: its sizes, and whether it has a hole; of a macro, that it is one (Gerber format, Standard
-- aperture templates; Aperture definition AD)
abbrev pub aperture_of : Template → Aperture
aperture_of (template.Standard standard.Circle sizes) = aperture.Circle (size_at sizes 0) (has_hole sizes 1)
aperture_of (template.Standard standard.Rectangle sizes) = aperture.Rectangle (size_at sizes 0) (size_at sizes 1) (has_hole sizes 2)
aperture_of (template.Standard standard.Obround sizes) = aperture.Obround (size_at sizes 0) (size_at sizes 1) (has_hole sizes 2)
aperture_of (template.Standard standard.Polygon sizes) = aperture.Polygon
aperture_of (template.Named name parameters) = aperture.Macro

-- the aperture that a command gives this number: `%ADD10C,0.5*%` gives one to 10 (Gerber format, Aperture definition AD)
abbrev pub definition_set : ℕ → Command → Option Aperture
definition_set number (command.Define other template) = if number == other then Some (aperture_of template) else None
definition_set number _ = None

-- the template that a command gives this number: `C,0.5` by `%ADD10C,0.5*%` (Gerber format, Aperture definition AD)
abbrev pub template_set : ℕ → Command → Option Template
template_set number (command.Define other template) = if number == other then Some template else None
template_set number _ = None

-- the template of a number is that of its last definition
abbrev pub template_numbered : List Command → ℕ → Option Template
template_numbered before number = last_set (template_set number) before

-- a command defines the macro of this name, as `%AMROUND*..*%` that of `ROUND` (Gerber format, Aperture macro AM)
abbrev pub defines_macro : List ℕ → Command → Bool
defines_macro name (command.Macro other pieces) = pointwise nat_eq other name
defines_macro name _ = false

-- ---- the state that a command meets

-- the state that a command meets: `x` and `y` in steps of the format, `turn` in 10^-8 degrees, `scale` in units of 10^-8
pub record GraphicsState : Type 0 where
  pub unit : Option Units
  pub format : Option Format
  pub in_region : Bool
  pub definition : ℕ → Option Aperture
  pub has_macro : List ℕ → Bool
  pub selected : Option ℕ
  pub x : ℤ
  pub y : ℤ
  pub turn : ℤ
  pub scale : ℤ
  pub block : StepRepeat

-- Each field is as the last command that names it says. At the start: no unit, format or aperture, the point (0, 0), turn 0,
-- scale 1, no block (docs/FORMATS.md, Point, state and copies).
abbrev pub state_after : List Command → GraphicsState
state_after before = record {
  unit = last_set unit_set before;
  format = last_set format_set before;
  in_region = unwrap_or (last_set region_set before) false;
  definition = λ number. last_set (definition_set number) before;
  has_macro = λ name. list_any (defines_macro name) before;
  selected = last_set aperture_selected before;
  x = unwrap_or (last_set x_set before) (pos 0);
  y = unwrap_or (last_set y_set before) (pos 0);
  turn = unwrap_or (last_set turn_set before) (pos 0);
  scale = unwrap_or (last_set scale_set before) unit_scale;
  block = unwrap_or (last_set block_set before) no_repeat;
}

-- the state without the tables of what is defined
abbrev pub current_of : GraphicsState → Current
current_of s = record { unit = s.unit; format = s.format; in_region = s.in_region; selected = s.selected; x = s.x; y = s.y; turn = s.turn; scale = s.scale; block = s.block }

-- the aperture of the number that was selected last (Gerber format, Current aperture Dnn)
abbrev pub current_aperture : GraphicsState → Option Aperture
current_aperture s = option_and_then s.definition s.selected
