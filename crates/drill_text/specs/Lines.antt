-- How a drill file is cut into lines (docs/FORMATS.md, Drill lines).
use Rattle.std.specs.Prelude.{◌≡◌, ◌≢◌, ℕ, List, [], ◌∷◌, ◌++◌}
use Rattle.std.specs.List.{flat_map, AllByRecursion}
use Rattle.grid_units.specs.Ascii as ascii

-- a line and the LF that ends it
abbrev pub ended_line : List ℕ → List ℕ
ended_line line = line ++ ascii.line_feed ∷ []

-- the bytes of lines that have ended, each with its LF
abbrev pub bytes_of : List (List ℕ) → List ℕ
bytes_of lines = flat_map ended_line lines

-- bytes without LF
abbrev pub HasNoBreak : List ℕ → Type 0
HasNoBreak bytes = AllByRecursion (λ b. b ≢ ascii.line_feed) bytes

-- A text is its ended lines, each with its LF, and a rest without LF: `M48`, LF, `%` is one line and the rest `%`.
pub record Splits (text : List ℕ) (lines : List (List ℕ)) (rest : List ℕ) : Type 0 where
  pub whole : text ≡ bytes_of lines ++ rest
  pub each : AllByRecursion HasNoBreak lines
  pub partial : HasNoBreak rest
