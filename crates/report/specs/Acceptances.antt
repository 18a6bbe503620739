-- Why findings of a report are accepted. A place counts from 0, among the rings or among the gaps.
use Rattle.std.specs.Prelude.{ℕ, ◌+◌, Bool, List, length, take, Option, None, is_some, get_or}
use Rattle.std.specs.Borrow.{Bor}
use Rattle.std.specs.List.{count_by}
use Rattle.report.specs.declared.BoardReport.{BoardReport}

-- the reason why a finding is accepted, by its place among the rings or among the gaps; nothing past the end of the list
abbrev pub acceptance_at : List (Option (Bor (List ℕ))) → ℕ → Option (Bor (List ℕ))
acceptance_at accepted place = get_or accepted place None

-- the finding at a place is waived
abbrev pub is_waived : List (Option (Bor (List ℕ))) → ℕ → Bool
is_waived accepted place = is_some (acceptance_at accepted place)

-- the number of the first `findings` ones that are waived
abbrev pub count_waived_first : List (Option (Bor (List ℕ))) → ℕ → ℕ
count_waived_first accepted findings = count_by is_some (take findings accepted)

-- the number of findings that are waived, rings and gaps, by their reasons
abbrev pub waived_in : BoardReport → List (Option (Bor (List ℕ))) → List (Option (Bor (List ℕ))) → ℕ
waived_in report rings gaps = count_waived_first rings (length report.rings.items) + count_waived_first gaps (length report.gaps.items)
