-- Numbers, and the lengths in pm that they give (docs/FORMATS.md, Numbers).
use Rattle.std.specs.Prelude.{ℕ, Option, Some, None, negsuc, ◌+◌, ◌-◌, ◌*◌, ◌/◌, ◌^◌, Bool, false, not, ◌||◌, ◌&&◌, ◌==◌, nat_lt, nat_le, List, [], ◌∷◌, ◌++◌, length, drop, replicate, if◌then◌else◌, Result, Ok, Err, ℤ, pos, neg_ℤ, ◌*ℤ◌, unsigned_abs}
use Rattle.std.specs.List.{fold, list_all, before_first, after_first}
use Rattle.grid_units.specs.declared.fault.Reason.{Reason}
use Rattle.grid_units.specs.declared.fault.Reason.TheVariants.{BadNumber, NoZeros, TooManyDigits, TooFine, TooFar}
use Rattle.grid_units.specs.declared.lengths.Unit.{Unit as Units}
use Rattle.grid_units.specs.declared.lengths.Unit.TheVariants.{Inch, Millimetre}
use Rattle.grid_units.specs.declared.zero_filling.Zeros.{Zeros}
use Rattle.grid_units.specs.declared.zero_filling.Zeros.TheVariants.{Leading, Trailing, Full}
use Rattle.grid_units.specs.Points.{max_coordinate}
use Rattle.grid_units.specs.Results.{◌>>=◌}
use Rattle.grid_units.specs.Ascii as ascii

-- ---- digits

-- `0` to `9`
abbrev pub is_digit : ℕ → Bool
is_digit b = nat_le ascii.digit_zero b && nat_le b ascii.digit_nine

-- a number character: a digit, a sign or a point
abbrev pub is_number_char : ℕ → Bool
is_number_char b = is_digit b || ((b == ascii.plus) || ((b == ascii.minus) || (b == ascii.point)))

-- one or more digits and nothing else: `007`
abbrev pub is_digits : List ℕ → Bool
is_digits bs = not (length bs == 0) && list_all is_digit bs

-- the number that decimal digits spell: `007` is 7
abbrev pub value : List ℕ → ℕ
value digits = fold (λ n b. n * 10 + (b - ascii.digit_zero)) 0 digits

-- what follows an optional sign: `.5` of `-.5`
abbrev pub without_sign : List ℕ → List ℕ
without_sign [] = []
without_sign (b ∷ bs) = if (b == ascii.plus) || (b == ascii.minus) then bs else b ∷ bs

-- the sign is a minus: `-.5`
abbrev pub is_negative : List ℕ → Bool
is_negative [] = false
is_negative (b ∷ bs) = b == ascii.minus

-- n, or minus n where the text begins with `-`
abbrev pub signed_value : List ℕ → ℕ → ℤ
signed_value text n = if is_negative text then neg_ℤ (pos n) else pos n

-- n with k decimals, in units of 10^-8, rounded down where that is not whole, else the v of v * 10^k = n * 10^8: 254 with 2 decimals is 254,000,000
abbrev pub to_units : ℕ → ℕ → ℕ
to_units n k = n * 10 ^ 8 / 10 ^ k

-- ---- decimals

-- the digits before the point: `01` of `-01.50`
abbrev pub whole : List ℕ → List ℕ
whole text = before_first (λ b. b == ascii.point) (without_sign text)

-- the digits after the point: `50` of `-01.50`
abbrev pub fraction : List ℕ → List ℕ
fraction text = after_first (λ b. b == ascii.point) (without_sign text)

-- an optional sign, and one or more digits with at most one point among them: `1.`, `-.5`, `01.00`
abbrev pub is_decimal : List ℕ → Bool
is_decimal text = (list_all is_digit (whole text) && list_all is_digit (fraction text)) && not (length (whole text) + length (fraction text) == 0)

-- the decimals after the eighth are zeros: `12345678000`
abbrev pub fits_eight_decimals : List ℕ → Bool
fits_eight_decimals decimals = list_all (λ b. b == ascii.digit_zero) (drop 8 decimals)

-- the number that all the digits spell, read without the point: 150 of `-01.50`
abbrev pub value_without_point : List ℕ → ℕ
value_without_point text = value (whole text ++ fraction text)

-- a decimal in units of 10^-8, or its first refusal, BadNumber, TooFine or TooFar: `-.5` is -50,000,000
unfoldable pub parse_decimal : List ℕ → Result ℤ Reason
parse_decimal text =
    if is_decimal text then (if fits_eight_decimals (fraction text) then (if nat_lt 999999 (value (whole text)) then Err TooFar
    else Ok (signed_value text (to_units (value_without_point text) (length (fraction text)))))
    else Err TooFine)
    else Err BadNumber

-- the largest absolute value of a decimal, in units of 10^-8: 999,999.99999999
abbrev pub max_units : ℕ
max_units = 99999999999999

-- the integer that is kept for one that is left out: -2^63, the least signed one of 64 bits
abbrev pub omitted_integer : ℤ
omitted_integer = negsuc 9223372036854775807

-- the integer that is kept as this one of 64 bits, `None` for `omitted_integer`, as for each other one above 2^63 - 1 in absolute value
abbrev pub kept_integer : ℤ → Option ℤ
kept_integer z = if nat_le (unsigned_abs z) 9223372036854775807 then Some z else None

-- ---- lengths

-- one unit in pm: an inch is 25.4 mm
abbrev pub unit_length : Units → ℕ
unit_length Inch = 25400000000
unit_length Millimetre = 1000000000

-- a number with so many decimals of a unit, in pm, each decimal rounded down where it is not whole, else the p of p * 10^decimals = n * unit: 254 with 2 decimals of 1 mm is 2,540,000,000
abbrev pub picometres : Units → ℕ → ℤ → ℤ
picometres unit decimals n = n *ℤ pos (unit_length unit / 10 ^ decimals)

-- a length in pm beyond 10 m (docs/FORMATS.md, Limits)
abbrev pub is_too_far : ℤ → Bool
is_too_far length = nat_lt max_coordinate (unsigned_abs length)

-- a length in pm, or TooFar beyond 10 m (docs/FORMATS.md, Limits)
unfoldable pub within_limit : ℤ → Result ℤ Reason
within_limit length = if is_too_far length then Err TooFar else Ok length

-- ---- drill coordinates without a point

-- How many zeros to fill in after n digits: under `LZ` up to all places, under `TZ` none; more digits than places are
-- TooManyDigits. Where neither is named, all places must be written, else NoZeros.
abbrev pub zeros_to_fill : Zeros → ℕ → ℕ → Result ℕ Reason
zeros_to_fill Leading places n = if nat_le n places then Ok (places - n) else Err TooManyDigits
zeros_to_fill Trailing places n = if nat_le n places then Ok 0 else Err TooManyDigits
zeros_to_fill Full places n = if n == places then Ok 0 else Err NoZeros

-- the number that digits spell with so many zeros filled in after them: `00254` with one zero is 2540
abbrev pub zero_filled : List ℕ → ℕ → ℕ
zero_filled digits zeros = value (digits ++ replicate zeros ascii.digit_zero)

-- a coordinate without a point in the format i:d, in units of 10^-8: `00254` in 3:3 under `LZ` is 254,000,000, that is 2.54
unfoldable pub parse_zero_filled : List ℕ → ℕ → ℕ → Zeros → Result ℤ Reason
parse_zero_filled text i d zeros =
    if is_digits (without_sign text) then (zeros_to_fill zeros (i + d) (length (without_sign text)) >>= λ k. Ok (signed_value text (to_units (zero_filled (without_sign text) k) d)))
    else Err BadNumber
