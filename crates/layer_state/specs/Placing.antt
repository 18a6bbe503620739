-- How the shape of an aperture lies on the board: mirrored, turned and copied (Gerber format, Aperture transformations LP, LM, LR, LS).
use Rattle.std.specs.Prelude.{ℕ, ℤ, ◌*ℤ◌, neg_ℤ, pos, Bool, false, not, List, map, reverse, Option, None, Some, if◌then◌else◌}
use Rattle.std.specs.Option.{option_map_or}
use Rattle.std.specs.List.{filter_map, flat_map}
use Rattle.grid_units.specs.Points.{GridPoint}
use Rattle.grid_units.specs.declared.lengths.Unit.{Unit as Units}
use Rattle.pad_shapes.specs.Placed.{shape_at}
use Rattle.pad_shapes.specs.Rounded.{GridRounded, is_outline}
use Rattle.macro_shapes.specs.Primitives.{quarter_turns, turned_x, turned_y}
use Rattle.macro_shapes.specs.Shapes.{is_centred_disc}
use Rattle.gerber_commands.specs.declared.command.StepRepeat.{StepRepeat}
use Rattle.layer_state.specs.Numbers.{dec_length}
use Rattle.layer_state.specs.Flashes.{numbers_below}
use Rattle.layer_state.specs.declared.mirroring.Mirroring.{Mirroring}

-- ---- mirrored and turned

-- nothing is mirrored, as by `%LMN*%` (Gerber format, Load mirroring LM)
abbrev pub no_mirroring : Mirroring
no_mirroring = record { x = false; y = false }

-- a number with its sign changed where this is so
abbrev pub negated_where : Bool → ℤ → ℤ
negated_where changed n = if changed then neg_ℤ n else n

-- a point with the signs of its mirrored coordinates changed (Gerber format, Load mirroring LM)
abbrev pub mirrored_point : Mirroring → GridPoint → GridPoint
mirrored_point m p = record { x = negated_where m.x p.x; y = negated_where m.y p.y }

-- a point turned counterclockwise about (0, 0) by so many quarters (Gerber format, Load rotation LR)
abbrev pub turned_point : ℕ → GridPoint → GridPoint
turned_point turns p = record { x = turned_x turns p; y = turned_y turns p }

-- a corner of an aperture as it is flashed: mirrored first, and then turned (Gerber format, Aperture transformations, order)
abbrev pub oriented_point : Mirroring → ℕ → GridPoint → GridPoint
oriented_point m turns p = turned_point turns (mirrored_point m p)

-- one axis alone is mirrored: then corners that went round counterclockwise go round clockwise
abbrev pub is_turned_over : Mirroring → Bool
is_turned_over m = if m.x then not m.y else m.y

-- the corners after the first one, counterclockwise again
abbrev pub in_order : Mirroring → List GridPoint → List GridPoint
in_order m others = if is_turned_over m then reverse others else others

-- the rounded polygon of these corners, where they are those of one
abbrev pub rounded_by : GridPoint → List GridPoint → ℕ → Option GridRounded
rounded_by first others radius = if is_outline first others then Some (record { first = first; others = others; radius = radius }) else None

-- the shape of an aperture as it is flashed, about the point of the flash
abbrev pub oriented_shape : Mirroring → ℕ → GridRounded → Option GridRounded
oriented_shape m turns s = rounded_by (oriented_point m turns s.first) (in_order m (map (oriented_point m turns) s.others)) s.radius

-- the shape of an aperture as it is flashed while the turn is so many 10^-8 degrees: by other than quarters a disc about the point of the flash alone is turned
abbrev pub turned_shape : Mirroring → ℤ → GridRounded → Option GridRounded
turned_shape m turn s = option_map_or (λ turns. oriented_shape m turns s) (quarter_turns turn) (if is_centred_disc s then Some s else None)

-- ---- copies

-- by how much the copy in a column and a row, both from 0, is moved (Gerber format, Step and repeat SR)
abbrev pub copy_in : Units → StepRepeat → ℕ → ℕ → GridPoint
copy_in unit block u v = record { x = pos u *ℤ dec_length unit block.step_x; y = pos v *ℤ dec_length unit block.step_y }

-- the copies of a step and repeat block: column by column, and in each column row by row
abbrev pub copies_of : Units → StepRepeat → List GridPoint
copies_of unit block = flat_map (λ u. map (copy_in unit block u) (numbers_below block.rows)) (numbers_below block.columns)

-- a shape at each copy, where it may lie there
abbrev pub shapes_at : Units → StepRepeat → GridRounded → List GridRounded
shapes_at unit block s = filter_map (shape_at s) (copies_of unit block)
