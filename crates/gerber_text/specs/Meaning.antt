-- What an item spells (docs/FORMATS.md, How a row fits and is read; The wide profile).
use Rattle.std.specs.Prelude.{ℕ, ◌-◌, ◌==◌, List, [], ◌∷◌, length, take, if◌then◌else◌, Option, None, Some, Err}
use Rattle.grid_units.specs.declared.fault.Reason.TheVariants.{BadWord}
use Rattle.grid_units.specs.declared.profile.Profile.{Profile}
use Rattle.grid_units.specs.declared.profile.Profile.TheVariants.{Strict, Wide}
use Rattle.gerber_commands.specs.declared.command.Action.{Action}
use Rattle.gerber_commands.specs.declared.command.Action.TheVariants.{Plot}
use Rattle.gerber_commands.specs.Rows.{Meaning}
use Rattle.gerber_commands.specs.Profiles.{extended_in}
use Rattle.gerber_commands.specs.Words.{word}
use Rattle.grid_units.specs.Ascii as ascii

-- all bytes but the last, which ends the item: `D10` of `D10*` (docs/FORMATS.md, Cutting)
abbrev pub without_end : List ℕ → List ℕ
without_end bytes = take (length bytes - 1) bytes

-- the operation that coordinates alone repeat in the profile, given the last one: in the strict profile only a plot (Gerber format, Coordinate data without operation code)
abbrev pub repeated_in : Profile → Option Action → Option Action
repeated_in Strict (Some Plot) = Some Plot
repeated_in Strict last = None
repeated_in Wide last = last

-- what an item spells in the profile, given the last operation before it: `D10*` spells Select(10)
unfoldable pub meaning_in : Profile → Option Action → List ℕ → Meaning
meaning_in profile last [] = Err BadWord
meaning_in profile last (b ∷ bs) = if b == ascii.percent then extended_in profile (without_end bs) else word (repeated_in profile last) (without_end (b ∷ bs))
