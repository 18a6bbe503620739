-- How numbers are written (docs/FORMATS.md, Numbers).
use Rattle.std.specs.Prelude.{ℕ, zero, suc, ◌+◌, ◌/◌, ◌%◌, ◌^◌, ◌&&◌, ◌==◌, List, [], ◌∷◌, ◌++◌, length, decimal, if◌then◌else◌, ℤ, pos, negsuc, unsigned_abs}
use Rattle.grid_units.specs.Ascii as ascii

-- the last so many digits of a number, with leading zeros: the last 3 of 12 are `012`
unfoldable pub places : ℕ → ℕ → List ℕ
places zero n = []
places (suc w) n = places w (n / 10) ++ (ascii.digit_zero + n % 10) ∷ []

-- digits without the zeros at their end: `05` of `0500`
unfoldable pub without_end_zeros : List ℕ → List ℕ
without_end_zeros [] = []
without_end_zeros (d ∷ ds) = if (d == ascii.digit_zero) && (length (without_end_zeros ds) == 0) then [] else d ∷ without_end_zeros ds

-- `-` below zero, else nothing
abbrev pub minus : ℤ → List ℕ
minus (pos n) = []
minus (negsuc n) = ascii.minus ∷ []

-- the decimals of a number of 10^-8, without the zeros at their end: `05` of 5,000,000
abbrev pub decimals : ℕ → List ℕ
decimals units = without_end_zeros (places 8 (units % 10 ^ 8))

-- `.` and the decimals, nothing where there are none
abbrev pub fraction_text : List ℕ → List ℕ
fraction_text [] = []
fraction_text (d ∷ ds) = ascii.point ∷ d ∷ ds

-- `.` and the decimals, `.0` where there are none
abbrev pub fraction_text_or_zero : List ℕ → List ℕ
fraction_text_or_zero [] = ascii.point ∷ ascii.digit_zero ∷ []
fraction_text_or_zero (d ∷ ds) = ascii.point ∷ d ∷ ds

-- the sign and the whole part of v, where so many units are 1; `0` stands for no whole part: `-12` of -1250 hundredths
abbrev pub signed_whole : ℕ → ℤ → List ℕ
signed_whole one v = minus v ++ decimal (unsigned_abs v / one)

-- the canonical spelling of a number of 10^-8: `0.05` of 5,000,000
unfoldable pub canonical : ℤ → List ℕ
canonical v = signed_whole (10 ^ 8) v ++ fraction_text (decimals (unsigned_abs v))

-- the spelling with a point, `.0` where there is no fraction: `-12.0` of -1,200,000,000
unfoldable pub spelling_with_point : ℤ → List ℕ
spelling_with_point v = signed_whole (10 ^ 8) v ++ fraction_text_or_zero (decimals (unsigned_abs v))

-- a length in pm as millimetres with nine decimals: `0.125000000` of 125,000,000
unfoldable pub millimetres : ℤ → List ℕ
millimetres p = signed_whole (10 ^ 9) p ++ ascii.point ∷ places 9 (unsigned_abs p % 10 ^ 9)
