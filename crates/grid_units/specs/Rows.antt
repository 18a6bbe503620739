-- Rows of a format's table, and which row decides what a text spells (docs/FORMATS.md, How a row fits and is read).
use Rattle.std.specs.Prelude.{ℕ, ◌==◌, List, [], ◌∷◌, length, take, drop, if◌then◌else◌, Option, None, Some, Result, Err}
use Rattle.std.specs.List.{slice_split}
use Rattle.std.specs.Str.{bytes_eq}
use Rattle.grid_units.specs.declared.fault.Reason.{Reason}

-- what a row makes of a text: None where it does not fit, else what the text spells or the reason that refuses it
abbrev pub RowOf : Type 0 → Type 0
RowOf A = Option (Result A Reason)

-- what the first row that fits makes of the text; where none fits, the text is refused for this reason
abbrev pub first_match_or : {A : Type 0} → Reason → List (RowOf A) → Result A Reason
first_match_or reason [] = Err reason
first_match_or reason (None ∷ rows) = first_match_or reason rows
first_match_or reason (Some meaning ∷ rows) = meaning

-- what follows this prefix, where a text begins with it: `10` after `G54D` in `G54D10`
abbrev pub strip_prefix : List ℕ → List ℕ → Option (List ℕ)
strip_prefix prefix text = if bytes_eq (take (length prefix) text) prefix then Some (drop (length prefix) text) else None

-- the row of texts that are just one of these literals, each with what it spells: `G36`
abbrev pub literal_row : {A : Type 0} → List (List ℕ × Result A Reason) → List ℕ → RowOf A
literal_row [] text = None
literal_row (form ∷ forms) text = if bytes_eq text form.0 then Some form.1 else literal_row forms text

-- the row of texts that begin with one of these literals, whatever follows, each with what it spells: `N10` begins with `N`
abbrev pub prefix_row : {A : Type 0} → List (List ℕ × Result A Reason) → List ℕ → RowOf A
prefix_row [] text = None
prefix_row (form ∷ forms) text = if bytes_eq (take (length form.0) text) form.0 then Some form.1 else prefix_row forms text

-- the parts of a text between the bytes that divide it: `0.5X1` divided at `X` is `0.5` and `1`
abbrev pub split_by : ℕ → List ℕ → List (List ℕ)
split_by at text = slice_split (λ b. b == at) text

-- the parts of an optional text, none where there is no text
abbrev pub split_by_if : ℕ → Option (List ℕ) → List (List ℕ)
split_by_if at None = []
split_by_if at (Some text) = split_by at text
