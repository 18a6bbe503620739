-- Definitions for single steps: of reading records, and of looking up waivers by a key.
use Rattle.std.specs.Prelude.{◌==◌, ◌++◌, ◌∷◌, [], ℕ, Bool, false, not, List, map, Option, Some, None, Result, Ok, Err}
use Rattle.std.specs.Borrow.{Bor}
use Rattle.std.specs.BTreeMap.{BTreeMap, get_by}
use Rattle.std.specs.BTreeSet.{BTreeSet, contains}
use Rattle.std.specs.Cmp.Lexicographic.{slice_cmp}
use Rattle.std.specs.List.{enumerate_from, filter, list_any}
use Rattle.std.specs.Ordering.{nat_cmp}
use Rattle.csv.specs.Writing.{comma, default_writer, field_text}
use Rattle.grid_units.specs.declared.fault.Reason.{Reason}
use Rattle.manifest.specs.Manifest.{CsvRecord}
use Rattle.waivers.specs.declared.Waiver.{Waiver}
use Rattle.waivers.specs.declared.reading.Fields.{Fields}
use Rattle.waivers.specs.declared.waiving.Waived.{Waived}
use Rattle.waivers.specs.Reading.{broken_rule, waiver_of}
use Rattle.waivers.specs.Waiving.{compared_fields, record_numbers_where, waived_by}

-- the waiver, if no rule is broken
abbrev pub unless_broken : Option Reason → Waiver → Result Waiver Reason
unless_broken None waiver = Ok waiver
unless_broken (Some why) waiver = Err why

-- the waiver of a record after the head, or the rule that it breaks
abbrev pub checked_waiver : CsvRecord → Result Waiver Reason
checked_waiver row = unless_broken (broken_rule row) (waiver_of row)

-- the waiver with these fields
abbrev pub waiver_with : Fields → Waiver
waiver_with f = record { kind = f.kind.now; layer = f.layer.now; hole = f.hole.now; and = f.and.now; has = f.has.now; why = f.why.now }

-- the fields of a record as CSV, with a comma after each but the last, and no line end: `gap,,"pth, 0.4 at 0,0","pth, 0.4 at 0.5,0",0.1`.
-- It is the key of five fields, which no other fields have
abbrev pub record_key : CsvRecord → List ℕ
record_key [] = []
record_key (field ∷ []) = field_text default_writer field
record_key (field ∷ next ∷ rest) = field_text default_writer field ++ comma ∷ record_key (next ∷ rest)

-- the place that a table holds for a key
abbrev pub place_at : BTreeMap (Bor (List ℕ)) ℕ → List ℕ → Option ℕ
place_at table key = get_by (λ k. slice_cmp nat_cmp key k.now) table

-- a set has a place
abbrev pub has_place : BTreeSet ℕ → ℕ → Bool
has_place places place = contains nat_cmp places place

-- a set has the place, if there is one
abbrev pub has_first_place : BTreeSet ℕ → Option ℕ → Bool
has_first_place used None = false
has_first_place used (Some place) = has_place used place

-- the numbers, from 2, of the waivers whose first waiver alike is not in a set; `firsts` has the place of that one for each
abbrev pub unused_numbers : BTreeSet ℕ → List (Option ℕ) → List ℕ
unused_numbers used firsts = map (λ one. one.0) (filter (λ one. not (has_first_place used one.1)) (enumerate_from 2 firsts))

-- a finding's waiver is the one at a place
abbrev pub is_waived_by : ℕ → Option ℕ → Bool
is_waived_by place None = false
is_waived_by place (Some by) = by == place

-- a finding's waiver is the one at a place, if there is such a place
abbrev pub is_waived_by_first : Option ℕ → Option ℕ → Bool
is_waived_by_first None by = false
is_waived_by_first (Some place) by = is_waived_by place by

-- the first waiver with the same five fields as this one waives some finding
abbrev pub is_used : List Waiver → Waived → Waiver → Bool
is_used all waived waiver = list_any (is_waived_by_first (waived_by all (compared_fields waiver))) (waived.rings.items ++ waived.gaps.items)

-- the numbers of the records of the other waivers
abbrev pub unused_records : List Waiver → Waived → List ℕ
unused_records all waived = record_numbers_where (λ waiver. not (is_used all waived waiver)) all
