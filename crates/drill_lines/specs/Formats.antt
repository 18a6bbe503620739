-- How many digits the coordinates of a drill file have (docs/FORMATS.md, Drill coordinates).
use Rattle.std.specs.Prelude.{ℕ, ◌≤◌}

-- how many digits a coordinate without a point has before the point and after it: 2 and 4 in the format 2:4
pub record Digits : Type 0 where
  pub whole : ℕ
  pub decimals : ℕ

-- each number of digits is 1 to 6
abbrev pub AreDigitCounts : ℕ → ℕ → Type 0
AreDigitCounts whole decimals = (1 ≤ whole) × (whole ≤ 6) × (1 ≤ decimals) × (decimals ≤ 6)
