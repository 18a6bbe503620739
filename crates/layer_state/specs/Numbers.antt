-- Lengths of a layer, in pm (docs/FORMATS.md, Lengths).
use Rattle.std.specs.Prelude.{◌+◌, ◌/◌, ◌^◌, ℤ, pos, ◌*ℤ◌, Bool, nat_le, unsigned_abs}
use Rattle.grid_units.specs.declared.lengths.Unit.{Unit as Units}
use Rattle.grid_units.specs.Numbers.{unit_length, picometres}
use Rattle.gerber_commands.specs.declared.command.Format.{Format}

-- a length of `n` times 10^-8 of a unit, in pm: `%ADD10C,0.5*%` in mm has n = 50,000,000, which is 500,000,000 pm
abbrev pub dec_length : Units → ℤ → ℤ
dec_length unit n = picometres unit 8 n

-- half of such a length, which is always whole: 5 pm for each 10^-8 mm, 127 pm for each 10^-8 inch
abbrev pub half_length : Units → ℤ → ℤ
half_length unit n = n *ℤ pos (unit_length unit / 10 ^ 8 / 2)

-- a coordinate has more digits than the format: `X1000` in a format of 1 whole and 2 decimals (Gerber format, Format specification FS)
abbrev pub is_long : Format → ℤ → Bool
is_long format n = nat_le (10 ^ (format.whole + format.decimals)) (unsigned_abs n)
