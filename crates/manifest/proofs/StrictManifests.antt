-- A manifest of the strict profile names the same files in the wide one.
use Rattle.manifest.proofs.Common.{◌≡◌, ◌∙◌, ◌++◌, ◌||◌, ◌&&◌, ◌==◌, ℕ, Bool, true, false, List, [], ◌∷◌, Option, Some, None, Ok, length, map, slice_get, not, refl, ap, sym, if◌then◌else◌, is_some, cons_option, filter_map, option_map, option_or, violation_at, violations, with_prefixes_from, Strict, Wide, Reason, BadManifest, BadRole, BadSpan, EmptyName, RepeatedName, Entry, CsvRecord, broken_after, csv_records, entries_or_fault, entry_of, field, first_broken_rule, first_fault, has_version_3, is_bad_span, is_header_v1, is_header_v2, is_header_v3, is_repeated, is_wide_alone, is_well_formed, joint_fault, manifest, manifest_in, parse_entries, parse_manifest_records, role_of_word}

-- a record that breaks no rule of the strict profile breaks none of the wide one
no_rule : (width : ℕ) (repeated : Bool) (row : CsvRecord) → first_broken_rule Strict width repeated row ≡ None → first_broken_rule Wide width repeated row ≡ None
no_rule width repeated row =
    by (not (is_well_formed width row)) (is_some (role_of_word (field 0 row))) (not (is_wide_alone (entry_of row).role))
    (if (length (field 1 row) == 0) || (length (field 2 row) == 0) then Some EmptyName
    else if repeated then Some RepeatedName
    else if is_bad_span (entry_of row).role (field 3 row) (field 4 row) then Some BadSpan else None)
  where
    by : (malformed named of_strict : Bool) (rest : Option Reason)
        → (if malformed then Some BadManifest else if not (named && of_strict) then Some BadRole else rest) ≡ None → (if malformed then Some BadManifest else if not (named && true) then Some BadRole else rest) ≡ None
    by true named of_strict rest h = absurd cc
    by false true true rest h = h
    by false true false rest h = absurd cc
    by false false of_strict rest h = absurd cc

-- nothing stands in front of a list that is empty
no_first : {C : Type 0} (before : List C) (o : Option Reason) (rest : List (ℕ × Reason)) → cons_option (option_map (λ r. (length before, r)) o) rest ≡ [] → (o ≡ None) × (rest ≡ [])
no_first before None rest h = (refl, h)
no_first before (Some why) rest h = absurd cc

-- records that break no rule break none of the rules that hold where those do
none_behind : {C : Type 0} (strict wide : List C → C → Option Reason) → ((before : List C) (row : C) → strict before row ≡ None → wide before row ≡ None)
    → (before rows : List C) → filter_map (violation_at strict) (with_prefixes_from before rows) ≡ [] → filter_map (violation_at wide) (with_prefixes_from before rows) ≡ []
none_behind strict wide each before [] h = refl
none_behind strict wide each before (row ∷ rows) h =
    let both = no_first before (strict before row) (filter_map (violation_at strict) (with_prefixes_from (before ++ row ∷ []) rows)) h in
    λ i. cons_option (option_map (λ r. (length before, r)) (each before row both.0 i)) (none_behind strict wide each (before ++ row ∷ []) rows both.1 i)

-- nothing is first in an empty list alone
no_fault : (faults : List (ℕ × Reason)) (joint : Option (ℕ × Reason)) → option_or (slice_get faults 0) joint ≡ None → (faults ≡ []) × (joint ≡ None)
no_fault [] joint h = (refl, h)
no_fault (wrong ∷ faults) joint h = absurd cc

no_first_fault : (width : ℕ) (files : List CsvRecord) → first_fault Strict width files ≡ None → first_fault Wide width files ≡ None
no_first_fault width files h =
    let both = no_fault (violations (broken_after Strict width) files) (joint_fault (map entry_of files)) h in
    let none : violations (broken_after Wide width) files ≡ [] =
    none_behind (broken_after Strict width) (broken_after Wide width) (λ before row. no_rule width (is_repeated (field 1 row) (map entry_of before)) row) [] files both.0 in
    λ i. option_or (slice_get (none i) 0) (both.1 i)

-- entries are read where nothing is wrong
is_right : (wrong : Option (ℕ × Reason)) (all entries : List Entry) → entries_or_fault wrong all ≡ Ok entries → wrong ≡ None
is_right None all entries h = refl
is_right (Some wrong) all entries h = absurd cc

same_entries : (width : Option ℕ) (files : List CsvRecord) (entries : List Entry) → parse_entries Strict width files ≡ Ok entries → parse_entries Wide width files ≡ Ok entries
same_entries None files entries h = h
same_entries (Some width) files entries h =
    let none = is_right (first_fault Strict width files) (map entry_of files) entries h in
    ap (λ (o : Option (ℕ × Reason)). entries_or_fault o (map entry_of files)) (no_first_fault width files none ∙ sym none) ∙ h

same_records : (rows : List CsvRecord) (entries : List Entry) → parse_manifest_records Strict rows ≡ Ok entries → parse_manifest_records Wide rows ≡ Ok entries
same_records [] entries h = h
same_records (first ∷ files) entries h = by (is_header_v1 first) (is_header_v2 first) h
  where
    by : (one two : Bool) → parse_entries Strict (if one then Some 3 else if two then Some 5 else if has_version_3 Strict && is_header_v3 first then Some 8 else None) files ≡ Ok entries
        → parse_entries Wide (if one then Some 3 else if two then Some 5 else if has_version_3 Wide && is_header_v3 first then Some 8 else None) files ≡ Ok entries
    by true two h = same_entries (Some 3) files entries h
    by false true h = same_entries (Some 5) files entries h
    by false false h = absurd cc

pub same_manifest : (text : List ℕ) (entries : List Entry) → manifest text ≡ Ok entries → manifest_in Wide text ≡ Ok entries
same_manifest text entries h = same_records (csv_records text) entries h
