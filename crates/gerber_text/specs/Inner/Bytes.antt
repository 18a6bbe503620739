-- Bytes inside an item, and after the end of the text (docs/FORMATS.md, Cutting).
use Rattle.std.specs.Prelude.{◌≡◌, ℕ, ◌<◌, ◌≤◌, Bool, false, ◌||◌, ◌==◌, List, length, take}
use Rattle.std.specs.List.{AllByRecursion}
use Rattle.gerber_text.specs.Items.{is_line_break, IsItem}
use Rattle.gerber_text.specs.Reading.{may_follow}
use Rattle.grid_units.specs.Limits.{item_limit}

-- a byte that neither ends the item nor is a line break
abbrev pub IsInside : ℕ → ℕ → Type 0
IsInside end b = ((b == end) ≡ false) × (is_line_break b ≡ false)

-- a byte that may stand after the end of the text: CR, LF, a space, a tab or `*`
abbrev pub may_follow_end : ℕ → Bool
may_follow_end b = is_line_break b || may_follow b

-- The bytes begin with an item of this length, without line breaks and within the limit.
pub record HasLeadingItem (bytes : List ℕ) (len : ℕ) : Type 0 where
  pub some : 0 < len
  pub within : len ≤ length bytes
  pub short : len ≤ item_limit
  pub one : IsItem (take len bytes)
  pub kept : AllByRecursion (λ b. is_line_break b ≡ false) (take len bytes)
