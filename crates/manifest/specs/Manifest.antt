-- The manifest: what its records say, and by which rule it is refused (docs/FORMATS.md, The manifest).
use Rattle.std.specs.Prelude.{◌+◌, ◌==◌, ◌&&◌, ◌||◌, ℕ, Bool, not, nat_lt, nat_le, true, false, if◌then◌else◌}
use Rattle.std.specs.Prelude.{List, [], ◌∷◌, length, codes, get_or, slice_get, map}
use Rattle.std.specs.Prelude.{Option, Some, None, is_some, unwrap_or, Result, Ok, Err}
use Rattle.std.specs.List.{list_all, list_any, count_by, position}
use Rattle.std.specs.Option.{option_or, option_map}
use Rattle.std.specs.Str.{bytes_eq, is_utf8}
use Rattle.csv.specs.Reading.{records, default_config, strip_bom}
use Rattle.grid_units.specs.Lists.{violations}
use Rattle.grid_units.specs.Numbers.{is_digits, value}
use Rattle.grid_units.specs.Results.{fault}
use Rattle.grid_units.specs.Spans.{LayerSpan}
use Rattle.grid_units.specs.declared.fault.Reason.{Reason}
use Rattle.grid_units.specs.declared.fault.Reason.TheVariants.{BadManifest, BadRole, EmptyName, RepeatedName, NoCopper, NoDrill, BadSpan}
use Rattle.grid_units.specs.declared.fault.Fault.{Fault}
use Rattle.grid_units.specs.declared.lengths.Unit.{Unit as Units}
use Rattle.grid_units.specs.declared.lengths.Unit.TheVariants.{Inch, Millimetre}
use Rattle.grid_units.specs.declared.zero_filling.Zeros.{Zeros}
use Rattle.grid_units.specs.declared.zero_filling.Zeros.TheVariants.{Leading, Trailing}
use Rattle.grid_units.specs.declared.profile.Profile.{Profile}
use Rattle.grid_units.specs.declared.profile.Profile.TheVariants.{Strict, Wide}
use Rattle.drill_lines.specs.Header.{parse_format}
use Rattle.drill_lines.specs.declared.command.CoordinateFormat.{CoordinateFormat}
use Rattle.manifest.specs.declared.Role.{Role}
use Rattle.manifest.specs.declared.Role.TheVariants.{Copper, Plated, Unplated, Mixed}
use Rattle.manifest.specs.declared.Entry.{Entry}
use Rattle.manifest.specs.declared.Said.{Said}
use Rattle.grid_units.specs.Ascii as ascii

-- ---- records

-- a record, the bytes of each of its fields: `copper,top,top.gbr` has three
abbrev pub CsvRecord : Type 0
CsvRecord = List (List ℕ)

-- the records of a text after its byte order mark, if it has one, as `csv` cuts them; the first is read as the others
abbrev pub csv_records : List ℕ → List CsvRecord
csv_records text = records default_config (strip_bom text)

-- the field at a place, counted from 0; empty where the record has none there
abbrev pub field : ℕ → CsvRecord → List ℕ
field k row = get_or row k []

-- ---- one record

-- a control byte: one below 0x20, or 0x7F
abbrev pub is_control : ℕ → Bool
is_control b = nat_lt b ascii.space || (b == ascii.delete)

-- UTF-8 without a control byte
abbrev pub is_plain_text : List ℕ → Bool
is_plain_text text = is_utf8 text && not (list_any is_control text)

-- the first three fields are `role`, `name`, `file`
abbrev pub has_file_columns : CsvRecord → Bool
has_file_columns row = bytes_eq (field 0 row) (codes "role") && (bytes_eq (field 1 row) (codes "name") && bytes_eq (field 2 row) (codes "file"))

-- the fourth and the fifth field are `first`, `last`
abbrev pub has_span_columns : CsvRecord → Bool
has_span_columns row = bytes_eq (field 3 row) (codes "first") && bytes_eq (field 4 row) (codes "last")

-- the first record of version 1: `role,name,file`
abbrev pub is_header_v1 : CsvRecord → Bool
is_header_v1 row = (length row == 3) && has_file_columns row

-- the first record of version 2: `role,name,file,first,last`
abbrev pub is_header_v2 : CsvRecord → Bool
is_header_v2 row = (length row == 5) && (has_file_columns row && has_span_columns row)

-- the last three fields are `unit`, `digits`, `zeros`
abbrev pub has_format_columns : CsvRecord → Bool
has_format_columns row = bytes_eq (field 5 row) (codes "unit") && (bytes_eq (field 6 row) (codes "digits") && bytes_eq (field 7 row) (codes "zeros"))

-- the first record of version 3: `role,name,file,first,last,unit,digits,zeros`
abbrev pub is_header_v3 : CsvRecord → Bool
is_header_v3 row = (length row == 8) && (has_file_columns row && (has_span_columns row && has_format_columns row))

-- the profile has version 3
abbrev pub has_version_3 : Profile → Bool
has_version_3 Strict = false
has_version_3 Wide = true

-- how many fields each record must have, by the first one: 3 in version 1, 5 in version 2 and 8 in version 3, in the wide profile alone; None where it is none of these
abbrev pub field_count : Profile → CsvRecord → Option ℕ
field_count profile first = if is_header_v1 first then Some 3 else if is_header_v2 first then Some 5 else if has_version_3 profile && is_header_v3 first then Some 8 else None

-- the unit that a word names: `inch` or `mm`
abbrev pub unit_of_word : List ℕ → Option Units
unit_of_word word = if bytes_eq word (codes "inch") then Some Inch else if bytes_eq word (codes "mm") then Some Millimetre else None

-- the zeros that a word says coordinates keep: the leading ones `LZ`, the trailing ones `TZ`
abbrev pub zeros_of_word : List ℕ → Option Zeros
zeros_of_word word = if bytes_eq word (codes "LZ") then Some Leading else if bytes_eq word (codes "TZ") then Some Trailing else None

-- both texts are empty
abbrev pub are_empty : List ℕ → List ℕ → Bool
are_empty first last = (length first == 0) && (length last == 0)

-- a text is empty, or says something
abbrev pub is_empty_or : Bool → List ℕ → Bool
is_empty_or says text = (length text == 0) || says

-- three texts say nothing of coordinates, or their unit and optionally their digits, as `2:4`, and zeros
abbrev pub are_format_words : List ℕ → List ℕ → List ℕ → Bool
are_format_words unit digits zeros =
    ((length unit == 0) && are_empty digits zeros) || (is_some (unit_of_word unit) && (is_empty_or (is_some (parse_format digits)) digits && is_empty_or (is_some (zeros_of_word zeros)) zeros))

-- a file with this word for its role may be said to have such coordinates: a copper layer has none
unfoldable pub may_say : List ℕ → List ℕ → List ℕ → List ℕ → Bool
may_say role unit digits zeros = are_format_words unit digits zeros && is_empty_or (not (bytes_eq role (codes "copper"))) unit

-- a record of just so many fields, each of plain text, of which the last three of version 3 say how coordinates are written, or nothing
abbrev pub is_well_formed : ℕ → CsvRecord → Bool
is_well_formed width row = (length row == width) && (list_all is_plain_text row && may_say (field 0 row) (field 5 row) (field 6 row) (field 7 row))

-- the role that a word names, byte by byte: `copper`, `plated`, `unplated` or `mixed`
abbrev pub role_of_word : List ℕ → Option Role
role_of_word word =
    if bytes_eq word (codes "copper") then Some Copper
    else if bytes_eq word (codes "plated") then Some Plated
    else if bytes_eq word (codes "unplated") then Some Unplated else if bytes_eq word (codes "mixed") then Some Mixed else None

-- the wide profile has this role: all but `mixed` are of the strict one too
abbrev pub is_wide_alone : Role → Bool
is_wide_alone role = elim role [ Copper ↦ false | Plated ↦ false | Unplated ↦ false | Mixed ↦ true ]

-- the profile has this role
abbrev pub is_role_in : Profile → Role → Bool
is_role_in Strict role = not (is_wide_alone role)
is_role_in Wide role = true

-- the number of a layer: one to nine digits, as `2` or `02`
abbrev pub is_layer_number : List ℕ → Bool
is_layer_number text = is_digits text && nat_le (length text) 9

-- two numbers of layers, the first at least 1 and not above the last: `2`, `3`
abbrev pub are_span_numbers : List ℕ → List ℕ → Bool
are_span_numbers first last = (is_layer_number first && is_layer_number last) && (nat_le 1 (value first) && nat_le (value first) (value last))

-- the span that two texts name; none where both are empty
abbrev pub span_of_fields : List ℕ → List ℕ → Option LayerSpan
span_of_fields first last = if are_empty first last then None else Some (record { first = value first; last = value last })

-- what three texts say of coordinates: `inch`, `2:4` and `TZ` what the line `INCH,TZ,00.0000` says; nothing where the first names no unit
unfoldable pub format_of_fields : List ℕ → List ℕ → List ℕ → Option CoordinateFormat
format_of_fields unit digits zeros = option_map (λ named. record { unit = named; zeros = zeros_of_word zeros; digits = parse_format digits }) (unit_of_word unit)

-- what a record says of a file besides its role and its names
abbrev pub said_of : CsvRecord → Said
said_of row = record { span = span_of_fields (field 3 row) (field 4 row); format = format_of_fields (field 5 row) (field 6 row) (field 7 row) }

-- The file that a record names: `plated,vias,vias.drl,2,3` names a plated drill file of the layers 2 and 3. An unknown role or a
-- bad span gives some value that is never used, as such a record is refused.
abbrev pub entry_of : CsvRecord → Entry
entry_of row = record { role = unwrap_or (role_of_word (field 0 row)) Copper; name = field 1 row; file = field 2 row; said = said_of row }

-- files of this role are copper layers
abbrev pub is_copper_role : Role → Bool
is_copper_role role = elim role [ Copper ↦ true | Plated ↦ false | Unplated ↦ false | Mixed ↦ false ]

-- the two fields of a span are not both empty, and the file is a copper layer or they are not the numbers of a span
abbrev pub is_bad_span : Role → List ℕ → List ℕ → Bool
is_bad_span role first last = not (are_empty first last) && (is_copper_role role || not (are_span_numbers first last))

-- an earlier file has this name
abbrev pub is_repeated : List ℕ → List Entry → Bool
is_repeated name earlier = list_any (λ entry. bytes_eq entry.name name) earlier

-- the first rule that a file's record breaks in a profile; a record needs `width` fields, and `repeated` says whether an earlier file has its name
abbrev pub first_broken_rule : Profile → ℕ → Bool → CsvRecord → Option Reason
first_broken_rule profile width repeated row =
    if not (is_well_formed width row) then Some BadManifest
    else if not (is_some (role_of_word (field 0 row)) && is_role_in profile (entry_of row).role) then Some BadRole
    else if (length (field 1 row) == 0) || (length (field 2 row) == 0) then Some EmptyName
    else if repeated then Some RepeatedName
    else if is_bad_span (entry_of row).role (field 3 row) (field 4 row) then Some BadSpan else None

-- ---- all records

-- the file is a copper layer
abbrev pub is_copper : Entry → Bool
is_copper entry = is_copper_role entry.role

-- NoCopper where no file is a copper layer, else NoDrill where none is a drill file
abbrev pub missing_role : List Entry → Option Reason
missing_role entries =
    if not (list_any is_copper entries) then Some NoCopper else if not (list_any (λ entry. not (is_copper entry)) entries) then Some NoDrill else None

-- the span ends above the last of so many layers
abbrev pub exceeds_layers : ℕ → Option LayerSpan → Bool
exceeds_layers layer_count None = false
exceeds_layers layer_count (Some span) = nat_lt layer_count span.last

-- the place, from 0, of the first file whose span ends above the last copper layer
abbrev pub first_exceeding : List Entry → Option ℕ
first_exceeding entries = position (λ entry. exceeds_layers (count_by is_copper entries) entry.said.span) entries

-- What is wrong with all files together, at a place from 0: one place after the last file, a role that they lack; or else, at
-- the place of its file, the first span that ends above the last copper layer.
abbrev pub joint_fault : List Entry → Option (ℕ × Reason)
joint_fault entries = option_or (option_map (λ why. (length entries, why)) (missing_role entries)) (option_map (λ i. (i, BadSpan)) (first_exceeding entries))

-- the first rule that a record breaks after the records of the files before it
abbrev pub broken_after : Profile → ℕ → List CsvRecord → CsvRecord → Option Reason
broken_after profile width before row = first_broken_rule profile width (is_repeated (field 1 row) (map entry_of before)) row

-- what is wrong, at a place from 0: the first record of a file that breaks a rule, or else what is wrong with all files together
abbrev pub first_fault : Profile → ℕ → List CsvRecord → Option (ℕ × Reason)
first_fault profile width files = option_or (slice_get (violations (broken_after profile width) files) 0) (joint_fault (map entry_of files))

-- these entries where nothing is wrong, else the refusal; the record of the first file has the number 2
abbrev pub entries_or_fault : Option (ℕ × Reason) → List Entry → Result (List Entry) Fault
entries_or_fault None entries = Ok entries
entries_or_fault (Some wrong) entries = Err (fault (wrong.0 + 2) 0 wrong.1)

-- the files that these records name, or the first refusal; each record needs so many fields
abbrev pub entries_of : Profile → ℕ → List CsvRecord → Result (List Entry) Fault
entries_of profile width files = entries_or_fault (first_fault profile width files) (map entry_of files)

-- the files named after a first record that gives the number of fields; where it gives none, BadManifest at record 1
abbrev pub parse_entries : Profile → Option ℕ → List CsvRecord → Result (List Entry) Fault
parse_entries profile None files = Err (fault 1 0 BadManifest)
parse_entries profile (Some width) files = entries_of profile width files

-- the files that a list of records names, or the first refusal; a list without records is BadManifest at record 1
abbrev pub parse_manifest_records : Profile → List CsvRecord → Result (List Entry) Fault
parse_manifest_records profile [] = Err (fault 1 0 BadManifest)
parse_manifest_records profile (first ∷ files) = parse_entries profile (field_count profile first) files

-- the files that the bytes of a manifest name in a profile, in order, or the first refusal
abbrev pub manifest_in : Profile → List ℕ → Result (List Entry) Fault
manifest_in profile text = parse_manifest_records profile (csv_records text)

-- the same in the strict profile
abbrev pub manifest : List ℕ → Result (List Entry) Fault
manifest text = manifest_in Strict text

-- the seven reasons for which a manifest is refused
abbrev pub is_manifest_reason : Reason → Bool
is_manifest_reason BadManifest = true
is_manifest_reason BadRole = true
is_manifest_reason EmptyName = true
is_manifest_reason RepeatedName = true
is_manifest_reason NoCopper = true
is_manifest_reason NoDrill = true
is_manifest_reason BadSpan = true
is_manifest_reason _ = false
