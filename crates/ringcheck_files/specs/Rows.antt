-- Rows of fields (docs/FORMATS.md, The tables).
use Rattle.std.specs.Prelude.{◌≡◌, ◌+◌, ℕ, false, List, [], ◌∷◌, ◌++◌}
use Rattle.std.specs.List.{flat_map, AllByRecursion}
use Rattle.csv.specs.Writing.{default_writer, needs_quotes}
use Rattle.grid_units.specs.Ascii as ascii

-- a row: its fields with a comma between each two, and LF, as in `1,macro,0.000000000,0.000000000,,`
abbrev pub row : List (List ℕ) → List ℕ
row [] = ascii.line_feed ∷ []
row (field ∷ fields) = field ++ (flat_map (λ next. ascii.comma ∷ next) fields ++ ascii.line_feed ∷ [])

-- the rows of these elements, numbered from n on
unfoldable pub rows_from : {A : Type 0} → (ℕ → A → List (List ℕ)) → ℕ → List A → List ℕ
rows_from fields n [] = []
rows_from fields n (element ∷ elements) = row (fields n element) ++ rows_from fields (n + 1) elements

-- a field that needs no quotes: no comma, quote or line end is in it
abbrev pub NeedsNoQuotes : List ℕ → Type 0
NeedsNoQuotes field = needs_quotes default_writer field ≡ false

-- fields that need no quotes
abbrev pub NeedNoQuotes : List (List ℕ) → Type 0
NeedNoQuotes fields = AllByRecursion NeedsNoQuotes fields
