-- The lines that drill: a hit at a point, a slot from one point to another (docs/FORMATS.md, Drill lines).
use Rattle.std.specs.Prelude.{ℕ, ℤ, Bool, ◌||◌, ◌&&◌, ◌==◌, List, [], ◌∷◌, length, drop, if◌then◌else◌, Option, Some, None, unwrap_or, is_some, Result, Ok, Err, codes, take_while}
use Rattle.std.specs.List.{list_any, prefix_len}
use Rattle.std.specs.Option.{option_map}
use Rattle.grid_units.specs.declared.fault.Reason.{Reason}
use Rattle.grid_units.specs.declared.fault.Reason.TheVariants.{BadLine}
use Rattle.grid_units.specs.declared.lengths.Unit.{Unit as Units}
use Rattle.grid_units.specs.declared.lengths.Unit.TheVariants.{Inch}
use Rattle.grid_units.specs.declared.zero_filling.Zeros.{Zeros}
use Rattle.grid_units.specs.declared.zero_filling.Zeros.TheVariants.{Full}
use Rattle.grid_units.specs.Numbers.{is_number_char, parse_decimal, parse_zero_filled}
use Rattle.grid_units.specs.Results.{◌>>=◌, both}
use Rattle.grid_units.specs.Rows.{RowOf, first_match_or, strip_prefix}
use Rattle.drill_lines.specs.declared.command.Coordinates.{Coordinates}
use Rattle.drill_lines.specs.declared.command.Settings.{Settings}
use Rattle.drill_lines.specs.declared.command.DrillCommand.{DrillCommand}
use Rattle.drill_lines.specs.declared.command.DrillCommand.TheVariants.{Hit, Slot}
use Rattle.drill_lines.specs.Formats.{Digits}
use Rattle.drill_lines.specs.Tools.{is_point}
use Rattle.grid_units.specs.Ascii as ascii

-- ---- coordinates

-- the format where a header gives none: 3:3 for metric and 2:4 for inch (docs/FORMATS.md, Coordinates of a drill file)
abbrev pub default_format : Option Units → Digits
default_format (Some Inch) = record { whole = 2; decimals = 4 }
default_format _ = record { whole = 3; decimals = 3 }

-- the format by which a coordinate without a point is read: the given one, else the default (docs/FORMATS.md, Coordinates of a drill file)
abbrev pub format_in : Settings → Digits
format_in settings = unwrap_or settings.format (default_format settings.unit)

-- the zeros that coordinates keep: all where the header names none (docs/FORMATS.md, Coordinates of a drill file)
abbrev pub zeros_in : Settings → Zeros
zeros_in settings = unwrap_or settings.zeros Full

-- a coordinate: a decimal with a point, or filled up: `00254` with `LZ` and 3:3 is 2.54 (docs/FORMATS.md, Coordinates of a drill file)
unfoldable pub coordinate_of : Settings → List ℕ → Result ℤ Reason
coordinate_of settings run = if list_any is_point run then parse_decimal run else parse_zero_filled run (format_in settings).whole (format_in settings).decimals (zeros_in settings)

-- the value of a coordinate's run, or that the coordinate is left out
unfoldable pub coordinate : Settings → Option (List ℕ) → Result (Option ℤ) Reason
coordinate settings None = Ok None
coordinate settings (Some run) = coordinate_of settings run >>= λ v. Ok (Some v)

-- ---- lines

-- the run after this letter, if the letter stands, and the bytes after it: `X1.0Y2.0` gives `1.0` and `Y2.0`
abbrev pub field : ℕ → List ℕ → Option (List ℕ) × List ℕ
field letter [] = (None, [])
field letter (b ∷ bs) = if b == letter then (Some (take_while is_number_char bs), drop (prefix_len is_number_char bs) bs) else (None, b ∷ bs)

-- the runs of X and Y, of those that stand
pub record Runs : Type 0 where
  pub x : Option (List ℕ)
  pub y : Option (List ℕ)

-- [`X` run] [`Y` run], and the bytes after them: `X1.0G85Y2.0` gives `1.0`, no Y, and `G85Y2.0`
abbrev pub runs_of : List ℕ → Runs × List ℕ
runs_of line = (record { x = (field ascii.upper_x line).0; y = (field ascii.upper_y (field ascii.upper_x line).1).0 }, (field ascii.upper_y (field ascii.upper_x line).1).1)

-- the run of X or that of Y stands
abbrev pub has_run : Runs → Bool
has_run runs = is_some runs.x || is_some runs.y

-- the coordinates of these runs, or the first reason in the reading order
unfoldable pub coordinates : Settings → Runs → Result Coordinates Reason
coordinates settings runs = both (coordinate settings runs.x) (coordinate settings runs.y) >>= λ p. Ok (record { x = p.0; y = p.1 })

-- the row of bytes that are a point alone, [`X` run] [`Y` run] with at least one of them: `X1.0Y2.0`, `Y2.0`
unfoldable pub point_line : Settings → List ℕ → RowOf Coordinates
point_line settings line = if has_run (runs_of line).0 && (length (runs_of line).1 == 0) then Some (coordinates settings (runs_of line).0) else None

-- a slot from this point, by what follows its `G85`: `Y1.0` of `X2.0G85Y1.0`
unfoldable pub slot_line : Settings → Runs → List ℕ → Result DrillCommand Reason
slot_line settings from line =
    if has_run (runs_of line).0 && (length (runs_of line).1 == 0) then (both (coordinates settings from) (coordinates settings (runs_of line).0) >>= λ p. Ok (Slot p.0 p.1)) else Err BadLine

-- a hit or a slot, by what follows its first point: nothing, or `G85` and a second point
unfoldable pub hole_from : Settings → Runs → List ℕ → Result DrillCommand Reason
hole_from settings from rest =
    if length rest == 0 then (coordinates settings from >>= λ p. Ok (Hit p))
    else first_match_or BadLine (option_map (slot_line settings from) (strip_prefix (codes "G85") rest) ∷ [])

-- a hit, as `X1.0Y-0.5`, or a slot, as `X2.0G85Y1.0`
unfoldable pub hole_line : Settings → List ℕ → Result DrillCommand Reason
hole_line settings line = hole_from settings (runs_of line).0 (runs_of line).1
