-- The lines of a header: units, zeros and formats (docs/FORMATS.md, Drill lines; Drill coordinates).
use Rattle.std.specs.Prelude.{ℕ, ◌-◌, Bool, ◌&&◌, ◌==◌, nat_le, List, [], ◌∷◌, length, drop, if◌then◌else◌, Option, Some, None, option_and_then, Result, Ok, Err, codes}
use Rattle.std.specs.Option.{option_map}
use Rattle.std.specs.List.{list_all, prefix_len}
use Rattle.grid_units.specs.declared.fault.Reason.{Reason}
use Rattle.grid_units.specs.declared.fault.Reason.TheVariants.{BadLine, BadNumber}
use Rattle.grid_units.specs.Results.{◌>>=◌}
use Rattle.grid_units.specs.Rows.{first_match_or, strip_prefix}
use Rattle.grid_units.specs.declared.lengths.Unit.{Unit as Units}
use Rattle.grid_units.specs.declared.zero_filling.Zeros.{Zeros}
use Rattle.grid_units.specs.declared.zero_filling.Zeros.TheVariants.{Leading, Trailing}
use Rattle.drill_lines.specs.declared.command.DrillCommand.{DrillCommand}
use Rattle.drill_lines.specs.declared.command.DrillCommand.TheVariants.{UnitLine}
use Rattle.drill_lines.specs.Formats.{Digits}
use Rattle.grid_units.specs.Numbers.{is_number_char}
use Rattle.grid_units.specs.Ascii as ascii

-- the digit `0`
abbrev pub is_zero : ℕ → Bool
is_zero b = b == ascii.digit_zero

-- a number of digits that a format can have: 1 to 6
abbrev pub is_digit_count : ℕ → Bool
is_digit_count n = nat_le 1 n && nat_le n 6

-- the format with these numbers of digits, or BadNumber where one of them is not 1 to 6
abbrev pub digit_counts : ℕ → ℕ → Result Digits Reason
digit_counts whole decimals = if is_digit_count whole && is_digit_count decimals then Ok (record { whole = whole; decimals = decimals }) else Err BadNumber

-- the format of a pattern, by its zeros before the point and by what follows these: a point and zeros
abbrev pub pattern_from : ℕ → List ℕ → Result Digits Reason
pattern_from whole [] = Err BadNumber
pattern_from whole (b ∷ bs) = if (b == ascii.point) && list_all is_zero bs then digit_counts whole (length bs) else Err BadNumber

-- the format that a pattern shows, zeros, a point and zeros: `00.0000` is 2:4
unfoldable pub pattern : List ℕ → Result Digits Reason
pattern run = pattern_from (prefix_len is_zero run) (drop (prefix_len is_zero run) run)

-- what follows the unit and the zeros: nothing, or `,` and a pattern, as in `METRIC,TZ,000.000`
unfoldable pub unit_format : Units → Option Zeros → List ℕ → Result DrillCommand Reason
unit_format unit zeros [] = Ok (UnitLine unit zeros None)
unit_format unit zeros (b ∷ bs) = if (b == ascii.comma) && list_all is_number_char bs then (pattern bs >>= λ p. Ok (UnitLine unit zeros (Some p))) else Err BadLine

-- what follows the unit: optionally `,LZ` or `,TZ`, then optionally `,` and a pattern. The last of these rows fits any line
unfoldable pub unit_line : Units → List ℕ → Result DrillCommand Reason
unit_line unit line =
    first_match_or BadLine
    (option_map (unit_format unit (Some Leading)) (strip_prefix (codes ",LZ") line)
    ∷ option_map (unit_format unit (Some Trailing)) (strip_prefix (codes ",TZ") line)
    ∷ Some (unit_format unit None line)
    ∷ [])

-- a digit from `1` to `6`
abbrev pub is_format_digit : ℕ → Bool
is_format_digit b = nat_le ascii.digit_one b && nat_le b ascii.digit_six

-- i:d, two digits from 1 to 6: `2:4`
abbrev pub parse_format : List ℕ → Option Digits
parse_format (i ∷ colon ∷ d ∷ []) = if is_format_digit i && ((colon == ascii.colon) && is_format_digit d) then Some (record { whole = i - ascii.digit_zero; decimals = d - ascii.digit_zero }) else None
parse_format _ = None

-- the format that the text of a comment gives, exactly `FILE_FORMAT=i:d`: `FILE_FORMAT=2:4` gives 2:4
unfoldable pub file_format : List ℕ → Option Digits
file_format text = option_and_then parse_format (strip_prefix (codes "FILE_FORMAT=") text)
