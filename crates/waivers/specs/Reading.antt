-- The waivers of a text, and the rules by which it is refused (docs/FORMATS.md, Waivers).
use Rattle.std.specs.Prelude.{◌+◌, ◌==◌, nat_lt, ◌&&◌, ◌||◌, ℕ, Bool, true, false, not, if◌then◌else◌, List, [], ◌∷◌, length, codes, slice_get, map, Option, Some, None, Result, Ok, Err}
use Rattle.std.specs.List.{list_all}
use Rattle.std.specs.Str.{bytes_eq}
use Rattle.grid_units.specs.Lists.{violations}
use Rattle.grid_units.specs.Results.{fault}
use Rattle.grid_units.specs.declared.fault.Reason.{Reason}
use Rattle.grid_units.specs.declared.fault.Reason.TheVariants.{BadManifest, BadRole, EmptyName, TooLong}
use Rattle.grid_units.specs.declared.fault.Fault.{Fault}
use Rattle.manifest.specs.Manifest.{CsvRecord, field, is_plain_text, csv_records}
use Rattle.waivers.specs.declared.Waiver.{Waiver}

-- the first three fields are `kind`, `layer`, `hole`
abbrev pub has_place_columns : CsvRecord → Bool
has_place_columns row = bytes_eq (field 0 row) (codes "kind") && (bytes_eq (field 1 row) (codes "layer") && bytes_eq (field 2 row) (codes "hole"))

-- the next three fields are `and`, `has`, `why`
abbrev pub has_reason_columns : CsvRecord → Bool
has_reason_columns row = bytes_eq (field 3 row) (codes "and") && (bytes_eq (field 4 row) (codes "has") && bytes_eq (field 5 row) (codes "why"))

-- the head: just the fields `kind`, `layer`, `hole`, `and`, `has`, `why`
abbrev pub is_heading : CsvRecord → Bool
is_heading row = (length row == 6) && (has_place_columns row && has_reason_columns row)

-- a record of just six fields, each of plain text
abbrev pub has_plain_fields : CsvRecord → Bool
has_plain_fields row = (length row == 6) && list_all is_plain_text row

-- a kind of finding: `ring` or `gap`
abbrev pub is_kind : List ℕ → Bool
is_kind word = bytes_eq word (codes "ring") || bytes_eq word (codes "gap")

-- the greatest length of a reason, in bytes
abbrev pub reason_limit : ℕ
reason_limit = 1000

-- the first rule that a record after the head breaks
abbrev pub broken_rule : CsvRecord → Option Reason
broken_rule row =
    if not (has_plain_fields row) then Some BadManifest
    else if not (is_kind (field 0 row)) then Some BadRole
    else if length (field 5 row) == 0 then Some EmptyName
    else if nat_lt reason_limit (length (field 5 row)) then Some TooLong else None

-- the fields of a record as a waiver: `ring,top,"pth, 0.4 at 0,0",,0.124999,drawn so`
abbrev pub waiver_of : CsvRecord → Waiver
waiver_of row = record { kind = field 0 row; layer = field 1 row; hole = field 2 row; and = field 3 row; has = field 4 row; why = field 5 row }

-- the first record after the head that breaks a rule, counted from 0, and the reason
abbrev pub first_wrong : List CsvRecord → Option (ℕ × Reason)
first_wrong rows = slice_get (violations (λ before row. broken_rule row) rows) 0

-- the waivers, if no record is wrong; the first record after the head has the number 2
abbrev pub unless_wrong : Option (ℕ × Reason) → List Waiver → Result (List Waiver) Fault
unless_wrong None all = Ok all
unless_wrong (Some wrong) all = Err (fault (wrong.0 + 2) 0 wrong.1)

-- the waivers of the records after the head
abbrev pub waivers_after_head : List CsvRecord → Result (List Waiver) Fault
waivers_after_head rows = unless_wrong (first_wrong rows) (map waiver_of rows)

-- the waivers of all records, the head being the first
abbrev pub waivers_of : List CsvRecord → Result (List Waiver) Fault
waivers_of [] = Err (fault 1 0 BadManifest)
waivers_of (first ∷ rows) = if is_heading first then waivers_after_head rows else Err (fault 1 0 BadManifest)

-- the waivers of a text, or its first refusal
abbrev pub waivers : List ℕ → Result (List Waiver) Fault
waivers text = waivers_of (csv_records text)

-- a reason for which a file of waivers is refused
abbrev pub is_waiver_reason : Reason → Bool
is_waiver_reason BadManifest = true
is_waiver_reason BadRole = true
is_waiver_reason EmptyName = true
is_waiver_reason TooLong = true
is_waiver_reason _ = false
