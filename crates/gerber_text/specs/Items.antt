-- Items of a Gerber text without its line ends: words as `D10*`, extended items as `%MOMM*%` (docs/FORMATS.md, Cutting).
use Rattle.std.specs.Prelude.{◌≡◌, ◌≢◌, ℕ, Bool, ◌||◌, ◌==◌, List, [], ◌∷◌, ◌++◌, if◌then◌else◌, codes}
use Rattle.std.specs.List.{AllByRecursion}
use Rattle.std.specs.Str.{bytes_eq}
use Rattle.grid_units.specs.Ascii as ascii

-- CR or LF, which are dropped wherever they stand, also inside a name or a number
abbrev pub is_line_break : ℕ → Bool
is_line_break b = (b == ascii.line_feed) || (b == ascii.carriage_return)

-- the byte that ends an item with this beginning: `%` where it begins with `%`, else `*` (Gerber format, Commands)
abbrev pub end_byte : List ℕ → ℕ
end_byte [] = ascii.asterisk
end_byte (b ∷ bs) = if b == ascii.percent then ascii.percent else ascii.asterisk

-- the bytes after the `%` that begins an extended item; all bytes of a word (Gerber format, Commands)
abbrev pub after_percent : List ℕ → List ℕ
after_percent [] = []
after_percent (b ∷ bs) = if b == ascii.percent then bs else b ∷ bs

-- no byte, an opening `%` apart, ends the item: so in `%MOMM*` and `X10`, and where there are no bytes yet
abbrev pub IsUnfinished : List ℕ → Type 0
IsUnfinished bytes = AllByRecursion (λ b. b ≢ end_byte bytes) (after_percent bytes)

-- just one item: a word with its `*`, as `M02*`, or an extended item with both its `%`, as `%LPD*%`
pub record IsItem (bytes : List ℕ) : Type 0 where
  pub prefix : List ℕ
  pub unfinished : IsUnfinished prefix
  pub whole : bytes ≡ prefix ++ end_byte prefix ∷ []

-- the last byte ends an item with this beginning; unlike in `IsItem`, such a byte may stand earlier too
abbrev pub IsEnded : List ℕ → Type 0
IsEnded bytes = (prefix : List ℕ) × (bytes ≡ prefix ++ end_byte prefix ∷ [])

-- `M02*` or `M2*`, the end of the text (Gerber format, End-of-file M02)
abbrev pub is_end_item : List ℕ → Bool
is_end_item bytes = bytes_eq bytes (codes "M02*") || bytes_eq bytes (codes "M2*")
