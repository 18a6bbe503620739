-- Lengths as people write them.
use Rattle.std.specs.Prelude.{◌%◌, ◌^◌, ◌++◌, ℕ, ℤ, List, unsigned_abs}
use Rattle.grid_units.specs.Spellings.{fraction_text, places, signed_whole, without_end_zeros}

-- a length in pm as millimetres, without the zeros at the end of its decimals, and without a point where none is left (docs/FORMATS.md, Numbers)
unfoldable pub short_millimetres : ℤ → List ℕ
short_millimetres length = signed_whole (10 ^ 9) length ++ fraction_text (without_end_zeros (places 9 (unsigned_abs length % 10 ^ 9)))
