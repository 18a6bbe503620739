-- A decimal at the start of a text (docs/FORMATS.md, Numbers).
use Rattle.std.specs.Prelude.{◌≡◌, ◌≤◌, ℕ, ℤ, true, ◌==◌, List, ◌++◌, length, Ok}
use Rattle.std.specs.List.{list_all, list_any, prefix_len}
use Rattle.grid_units.specs.Numbers.{is_number_char, parse_decimal}
use Rattle.grid_units.specs.Ascii as ascii

-- the bytes are a whole run of at most 16 number characters and `rest`; the run has a point and spells v: `0.5` of `0.5D03`
pub record IsPrefixDecimal (v : ℤ) (rest bytes : List ℕ) : Type 0 where
  pub run : List ℕ
  pub whole : bytes ≡ run ++ rest
  pub numbers : list_all is_number_char run ≡ true
  pub ends : prefix_len is_number_char rest ≡ 0
  pub point : list_any (λ b. b == ascii.point) run ≡ true
  pub reads : parse_decimal run ≡ Ok v
  pub short : length run ≤ 16
