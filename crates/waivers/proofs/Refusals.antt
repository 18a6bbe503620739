-- A file of waivers is refused for one of its own reasons.
use Rattle.waivers.proofs.Common.{◌≡◌, ◌∙◌, ◌+◌, ◌==◌, nat_lt, ℕ, Bool, true, false, List, [], ◌∷◌, Option, Some, None, Result, Err, length, map, not, refl, ap, sym, if◌then◌else◌, CsvRecord, field, has_plain_fields, csv_records, Waiver, broken_rule, first_wrong, is_heading, is_kind, is_waiver_reason, reason_limit, unless_wrong, waiver_of, waivers, waivers_after_head, waivers_of, fault, Fault, Reason}
use Rattle.grid_units.specs.declared.fault.Reason.TheVariants.{BadManifest, BadRole, EmptyName, TooLong}
use Rattle.manifest.proofs.ManifestReasons.{Fair, FairAt, listed_if, first_is_listed}
use Rattle.waivers.proofs.RecordLemmas.{rule}

broken_fair : (row : CsvRecord) → Fair is_waiver_reason (broken_rule row)
unfolding Fair
broken_fair row =
    let either = listed_if is_waiver_reason in
    either (not (has_plain_fields row)) (Some BadManifest) _ refl
    (either (not (is_kind (field 0 row))) (Some BadRole) _ refl
    (either (length (field 5 row) == 0) (Some EmptyName) _ refl (either (nat_lt reason_limit (length (field 5 row))) (Some TooLong) None refl tt)))

-- an answer is refused by such a reason alone
FairAnswer : Result (List Waiver) Fault → Type 0
FairAnswer answer = (f : Fault) → answer ≡ Err f → is_waiver_reason f.reason ≡ true

of_fault : (g : Fault) → is_waiver_reason g.reason ≡ true → FairAnswer (Err g)
unfolding FairAnswer
of_fault g h f e = let same : g ≡ f = cc in ap (λ (x : Fault). is_waiver_reason x.reason) (sym same) ∙ h

after_head_fair : (rows : List CsvRecord) → FairAnswer (waivers_after_head rows)
unfolding FairAt FairAnswer
after_head_fair rows = by (first_wrong rows) (first_is_listed is_waiver_reason rule (λ before row. broken_fair row) rows)
  where
    by : (o : Option (ℕ × Reason)) → FairAt is_waiver_reason o → FairAnswer (unless_wrong o (map waiver_of rows))
    by None h f e = absurd cc
    by (Some wrong) h f e = of_fault (fault (wrong.0 + 2) 0 wrong.1) h f e

rows_fair : (rows : List CsvRecord) → FairAnswer (waivers_of rows)
rows_fair [] = of_fault (fault 1 0 BadManifest) refl
rows_fair (first ∷ rows) = by (is_heading first)
  where
    by : (b : Bool) → FairAnswer (if b then waivers_after_head rows else Err (fault 1 0 BadManifest))
    by true = after_head_fair rows
    by false = of_fault (fault 1 0 BadManifest) refl

pub waivers_fair : (text : List ℕ) (f : Fault) → waivers text ≡ Err f → is_waiver_reason f.reason ≡ true
unfolding FairAnswer
waivers_fair text = rows_fair (csv_records text)
