-- One record after another.
use Rattle.waivers.proofs.Common.{◌≡◌, ◌∙◌, ◌+◌, ◌++◌, ℕ, List, [], ◌∷◌, Option, Some, None, Ok, Err, length, map, slice_get, refl, ap, sym, map-append, Vec, CsvRecord, Waiver, checked_waiver, unless_broken, broken_rule, unless_wrong, waiver_of, waivers_after_head, violations, Answers, with_place, fault, Reason, Fault}
use Rattle.std.specs.declared.alloc.Global.{Global}
use Rattle.grid_units.proofs.LookbackLemmas.{violations-first, violations-more}
use Rattle.grid_units.specs.declared.fault.Fail.{Fail}
use Rattle.grid_units.specs.declared.fault.Fail.TheVariants as fails

-- the rule of a record, whatever comes before it
abbrev pub rule : List CsvRecord → CsvRecord → Option Reason
rule before row = broken_rule row

broken : (o : Option Reason) (given : Waiver) (place : ℕ) (f : Fault) → Err f ≡ with_place place 0 (unless_broken o given) → (why : Reason) × (o ≡ Some why) × (f ≡ fault place 0 why)
broken None given place f e = absurd cc
broken (Some why) given place f e = (why, refl, cc)

accepted : (row : CsvRecord) (waiver : Waiver) (place : ℕ) → Ok waiver ≡ with_place place 0 (checked_waiver row) → (broken_rule row ≡ None) × (waiver ≡ waiver_of row)
accepted row waiver place e = by (broken_rule row) e
  where
    by : (o : Option Reason) → Ok waiver ≡ with_place place 0 (unless_broken o (waiver_of row)) → (o ≡ None) × (waiver ≡ waiver_of row)
    by None h = (refl, cc)
    by (Some why) h = absurd cc

-- the first record that breaks a rule is the refusal
refused_at : (before rest : List CsvRecord) (row : CsvRecord) (why : Reason) → violations rule before ≡ [] → broken_rule row ≡ Some why → waivers_after_head (before ++ row ∷ rest) ≡ Err (fault (length before + 2) 0 why)
refused_at before rest row why none is =
    ap (λ (o : Option (ℕ × Reason)). unless_wrong o (map waiver_of (before ++ row ∷ rest))) (violations-first rule before rest row why none is)

-- a record that is refused after lawful ones, as a failure
pub refused : (before rest : List CsvRecord) (row : CsvRecord) (all : List CsvRecord) (i : ℕ) (e : Fail) → all ≡ before ++ row ∷ rest → i ≡ length before → violations rule before ≡ []
    → Answers (λ (x : Waiver). x) (λ answer. answer ≡ with_place (i + 2) 0 (checked_waiver row)) (Err e) → Answers {T = Vec Waiver Global} (λ all. all.items) (λ answer. answer ≡ waivers_after_head all) (Err e)
refused before rest row all i fails.Memory split place none h = tt
refused before rest row all i (fails.Refused f) split place none h =
    let (why, is, same) = broken (broken_rule row) (waiver_of row) (i + 2) f h in
    ap (λ (g : Fault). Err g) (same ∙ ap (λ (n : ℕ). fault (n + 2) 0 why) place) ∙ (sym (refused_at before rest row why none is) ∙ ap waivers_after_head (sym split))

-- a record that is accepted after lawful ones
pub accepted_more : (before : List CsvRecord) (row : CsvRecord) (after : List CsvRecord) (earlier items : List Waiver) (waiver : Waiver) (place : ℕ) → after ≡ before ++ row ∷ [] → earlier ≡ map waiver_of before
    → items ≡ earlier ++ waiver ∷ [] → violations rule before ≡ [] → Ok waiver ≡ with_place place 0 (checked_waiver row) → (items ≡ map waiver_of after) × (violations rule after ≡ [])
accepted_more before row after earlier items waiver place grown are more none e =
    let (lawful, is) = accepted row waiver place e in
    let all : items ≡ map waiver_of (before ++ row ∷ []) = more ∙ (λ k. are k ++ is k ∷ []) ∙ sym (map-append waiver_of before (row ∷ [])) in
    (all ∙ ap (map waiver_of) (sym grown), ap (violations rule) grown ∙ violations-more rule before row none lawful)

-- where no record breaks a rule, all are waivers
pub at_end : (rows : List CsvRecord) (items : List Waiver) → items ≡ map waiver_of rows → violations rule rows ≡ [] → Ok items ≡ waivers_after_head rows
at_end rows items are none =
    ap (λ (ws : List Waiver). Ok ws) are ∙ sym (ap (λ (l : List (ℕ × Reason)). unless_wrong (slice_get l 0) (map waiver_of rows)) none)
