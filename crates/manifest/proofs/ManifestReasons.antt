-- A manifest is refused for one of its own reasons.
use Rattle.manifest.proofs.Common.{◌≡◌, ◌∙◌, ◌+◌, ◌++◌, ◌||◌, ◌&&◌, ◌==◌, ℕ, Bool, true, false, List, [], ◌∷◌, Option, Some, None, Result, Err, length, map, slice_get, not, refl, ap, sym, if◌then◌else◌, is_some, cons_option, filter_map, list_any, option_map, option_or, violation_at, violations, with_prefixes_from, fault, Fault, Profile, Reason, BadManifest, BadRole, BadSpan, EmptyName, NoCopper, NoDrill, RepeatedName, Entry, CsvRecord, broken_after, first_broken_rule, entry_of, field, parse_entries, first_exceeding, first_fault, is_bad_span, is_manifest_reason, is_repeated, is_role_in, is_well_formed, manifest_in, parse_manifest_records, missing_role, role_of_word, csv_records, entries_or_fault, field_count, joint_fault}
use Rattle.manifest.specs.Manifest.{is_copper}

module _ (fair : Reason → Bool) where
  -- no reason, or one that passes
  unfoldable pub Fair : Option Reason → Type 0
  Fair None = Unit {0}
  Fair (Some why) = fair why ≡ true

  -- no reason with its place, or one that passes
  unfoldable pub FairAt : Option (ℕ × Reason) → Type 0
  FairAt None = Unit {0}
  FairAt (Some wrong) = fair wrong.1 ≡ true

  pub listed_if : (b : Bool) (x y : Option Reason) → Fair x → Fair y → Fair (if b then x else y)
  listed_if true x y h k = h
  listed_if false x y h k = k

  one_more : {C : Type 0} (before : List C) (o : Option Reason) (rest : List (ℕ × Reason)) → Fair o → FairAt (slice_get rest 0) → FairAt (slice_get (cons_option (option_map (λ r. (length before, r)) o) rest) 0)
  unfolding Fair FairAt
  one_more before None rest h k = k
  one_more before (Some why) rest h k = h

  first_behind : {C : Type 0} (rule : List C → C → Option Reason) → ((before : List C) (row : C) → Fair (rule before row)) → (before rows : List C) → FairAt (slice_get (filter_map (violation_at rule) (with_prefixes_from before rows)) 0)
  unfolding FairAt
  first_behind rule each before [] = tt
  first_behind rule each before (row ∷ rows) = one_more before (rule before row) _ (each before row) (first_behind rule each (before ++ row ∷ []) rows)

  -- the first record that breaks a rule breaks it by such a reason, where each does
  pub first_is_listed : {C : Type 0} (rule : List C → C → Option Reason) → ((before : List C) (row : C) → Fair (rule before row)) → (rows : List C) → FairAt (slice_get (violations rule rows) 0)
  first_is_listed rule each rows = first_behind rule each [] rows

broken_is_listed : (profile : Profile) (width : ℕ) (repeated : Bool) (row : CsvRecord) → Fair is_manifest_reason (first_broken_rule profile width repeated row)
unfolding Fair
broken_is_listed profile width repeated row =
    let either = listed_if is_manifest_reason in
    either (not (is_well_formed width row)) (Some BadManifest) _ refl
    (either (not (is_some (role_of_word (field 0 row)) && is_role_in profile (entry_of row).role)) (Some BadRole) _ refl
    (either ((length (field 1 row) == 0) || (length (field 2 row) == 0)) (Some EmptyName) _ refl
    (either repeated (Some RepeatedName) _ refl
    (either (is_bad_span (entry_of row).role (field 3 row) (field 4 row)) (Some BadSpan) None refl tt))))

missing_is_listed : (entries : List Entry) → Fair is_manifest_reason (missing_role entries)
unfolding Fair
missing_is_listed entries =
    let either = listed_if is_manifest_reason in
    either (not (list_any is_copper entries)) (Some NoCopper) _ refl (either (not (list_any (λ entry. not (is_copper entry)) entries)) (Some NoDrill) None refl tt)

joint_is_listed : (entries : List Entry) → FairAt is_manifest_reason (joint_fault entries)
unfolding Fair FairAt
joint_is_listed entries = by (missing_role entries) (first_exceeding entries) (missing_is_listed entries)
  where
    by : (o : Option Reason) (beyond : Option ℕ) → Fair is_manifest_reason o → FairAt is_manifest_reason (option_or (option_map (λ why. (length entries, why)) o) (option_map (λ i. (i, BadSpan)) beyond))
    by None None h = tt
    by None (Some i) h = refl
    by (Some why) beyond h = h

first_fault_is_listed : (profile : Profile) (width : ℕ) (files : List CsvRecord) → FairAt is_manifest_reason (first_fault profile width files)
unfolding FairAt
first_fault_is_listed profile width files =
    by (slice_get (violations (broken_after profile width) files) 0) (first_is_listed is_manifest_reason (broken_after profile width) (λ before row. broken_is_listed profile width (is_repeated (field 1 row) (map entry_of before)) row) files)
  where
    by : (o : Option (ℕ × Reason)) → FairAt is_manifest_reason o → FairAt is_manifest_reason (option_or o (joint_fault (map entry_of files)))
    by None h = joint_is_listed (map entry_of files)
    by (Some wrong) h = h

-- an answer is refused by such a reason alone
IsListedReason : Result (List Entry) Fault → Type 0
IsListedReason answer = (f : Fault) → answer ≡ Err f → is_manifest_reason f.reason ≡ true

of_fault : (g : Fault) → is_manifest_reason g.reason ≡ true → IsListedReason (Err g)
unfolding IsListedReason
of_fault g h f e = let same : g ≡ f = cc in ap (λ (x : Fault). is_manifest_reason x.reason) (sym same) ∙ h

entries_are_listed : (profile : Profile) (width : Option ℕ) (files : List CsvRecord) → IsListedReason (parse_entries profile width files)
unfolding FairAt IsListedReason
entries_are_listed profile None files = of_fault (fault 1 0 BadManifest) refl
entries_are_listed profile (Some width) files = by (first_fault profile width files) (first_fault_is_listed profile width files)
  where
    by : (o : Option (ℕ × Reason)) → FairAt is_manifest_reason o → IsListedReason (entries_or_fault o (map entry_of files))
    by None h f e = absurd cc
    by (Some wrong) h f e = of_fault (fault (wrong.0 + 2) 0 wrong.1) h f e

rows_fair : (profile : Profile) (rows : List CsvRecord) → IsListedReason (parse_manifest_records profile rows)
rows_fair profile [] = of_fault (fault 1 0 BadManifest) refl
rows_fair profile (first ∷ files) = entries_are_listed profile (field_count profile first) files

pub manifest_is_listed : (profile : Profile) (text : List ℕ) (f : Fault) → manifest_in profile text ≡ Err f → is_manifest_reason f.reason ≡ true
unfolding IsListedReason
manifest_is_listed profile text = rows_fair profile (csv_records text)
