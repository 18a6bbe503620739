-- What a check or a report that passes, or a measure, says of three files at hand.
use Rattle.print_text.specs.Drilling.{DrillBounds}
use Rattle.ringcheck.proofs.Common.{◌≡◌, ℕ, zero, suc, Bool, true, false, List, [], ◌∷◌, inl, inr, Option, None, Result, Ok, Err, length, codes, ap, sym, subst, refl, arith, Contains, GridRules, Reason, Profile, Entry, manifest_in, FileView, Status, ReportFormat, IsParsedMeasureStatus, file_limit, within, Written, IsParsedReportStatus, HasFiles, HoldsForPackage, IsParsedCheckStatus, sources}
use Rattle.package_check.specs.Measures.{PackagePasses}
use Rattle.report.specs.declared.Measure.{Measure}
use Rattle.package_check.specs.Soundness.{IsSound}
use Rattle.ringcheck_files.specs.declared.Status.TheVariants as status
use Rattle.ringcheck.specs.declared.parsed_words.MeasureOrder.{MeasureOrder}
use Rattle.ringcheck_files.specs.Words.{IsExplainedUsage}
use Rattle.ringcheck.proofs.LoadSteps.{has_files_along}

-- a manifest, a layer and a drill file under their names
abbrev pub three : List ℕ → List ℕ → List ℕ → List (List ℕ × List ℕ)
three m l d = (codes "m.csv", m) ∷ (codes "top.gbr", l) ∷ (codes "pth.drl", d) ∷ []

abbrev pub has_three_files : List ℕ → List ℕ → List ℕ → List ℕ → List ℕ → Type 0
has_three_files m l d name bytes = Contains {X = List ℕ × List ℕ} (three m l d) (name, bytes)

other_length : (a b : List ℕ) → length a ≡ 7 → length b ≡ 5 → a ≡ b → ⊥
other_length a b s f e = absurd (omega (arith, s, f, ap (λ (x : List ℕ). length x) e))

first_held : (m l d text : List ℕ) → has_three_files m l d (codes "m.csv") text → text ≡ m
first_held m l d text (zero, lt, is) = sym (ap (λ (p : List ℕ × List ℕ). p.1) is)
first_held m l d text (suc zero, lt, is) = absurd (other_length (codes "top.gbr") (codes "m.csv") refl refl (ap (λ (p : List ℕ × List ℕ). p.0) is))
first_held m l d text (suc (suc zero), lt, is) = absurd (other_length (codes "pth.drl") (codes "m.csv") refl refl (ap (λ (p : List ℕ × List ℕ). p.0) is))
first_held m l d text (suc (suc (suc k)), lt, is) = absurd (omega (arith, lt))

usage_never_passes : (below : Bool) (why : Reason) (sentence : List ℕ) (before after : Written) (s : Status) → IsExplainedUsage below why sentence before after s → s ≡ status.Pass → ⊥
usage_never_passes below why sentence before after s (inl u) p = let e = u.0 in cc
usage_never_passes below why sentence before after s (inr d) p = cc

-- a package whose manifest is the first file
held : (m l d : List ℕ) (profile : Profile) (Holds : List ℕ → List Entry → List FileView → Type 0) → HoldsForPackage (has_three_files m l d) profile (codes "m.csv") Holds
    → (entries : List Entry) × (manifest_in profile m ≡ Ok entries) × (files : List (List ℕ)) × HasFiles (has_three_files m l d) entries files × Holds m entries (sources profile entries files)
held m l d profile Holds h =
    let is = first_held m l d h.text h.listed.0 in (
      h.entries,
      subst (λ (t : List ℕ). manifest_in profile t ≡ Ok h.entries) is h.listed.2,
      h.files,
      has_files_along (within file_limit (has_three_files m l d)) (has_three_files m l d) (λ n b w. w.0) h.entries h.files h.loaded,
      subst (λ (t : List ℕ). Holds t h.entries (sources profile h.entries h.files)) is h.holds,
    )

-- the files that the manifest names are sound
pub sound_of_three : (sentence m l d : List ℕ) (r : Result GridRules Reason) (before after : Written) (s : Status) → IsParsedCheckStatus (has_three_files m l d) (codes "m.csv") r sentence before after s → s ≡ status.Pass
    → (rules : GridRules) × (r ≡ Ok rules) × (entries : List Entry) × (manifest_in rules.profile m ≡ Ok entries) × (files : List (List ℕ)) × HasFiles (has_three_files m l d) entries files × IsSound (sources rules.profile entries files) rules
sound_of_three sentence m l d (Err why) before after s says is = absurd (usage_never_passes false why sentence before after s says is)
sound_of_three sentence m l d (Ok rules) before after s says is = let (entries, listed, files, loaded, holds) = held m l d rules.profile _ (subst (IsParsedCheckStatus (has_three_files m l d) (codes "m.csv") (Ok rules) sentence before after) is says).0 in (rules, refl, entries, listed, files, loaded, holds.sound refl)

-- the files that the manifest names pass under just the rules that are met
pub met_of_three : (sentence m l d : List ℕ) (r : Result MeasureOrder Reason) (before after : Written) (s : Status) → IsParsedMeasureStatus (has_three_files m l d) (codes "m.csv") r sentence before after s → s ≡ status.Pass
    → (order : MeasureOrder) × (r ≡ Ok order) × (entries : List Entry) × (manifest_in order.profile m ≡ Ok entries) × (files : List (List ℕ)) × HasFiles (has_three_files m l d) entries files
    × (measure : Measure) × PackagePasses order.profile (sources order.profile entries files) measure.meets.ring measure.meets.gap
met_of_three sentence m l d (Err why) before after s says is = absurd (usage_never_passes true why sentence before after s says is)
met_of_three sentence m l d (Ok order) before after s says is = let (entries, listed, files, loaded, holds) = held m l d order.profile _ (subst (IsParsedMeasureStatus (has_three_files m l d) (codes "m.csv") (Ok order) sentence before after) is says).0 in (order, refl, entries, listed, files, loaded, holds.measure, holds.met)

-- the files that the manifest names are sound, where a report has no finding
pub report_of_three : (below : Bool) (sentence m l d : List ℕ) (r : Result (GridRules × Option DrillBounds × Option ℕ × ReportFormat) Reason) (before after : Written) (s : Status) → IsParsedReportStatus (has_three_files m l d) (codes "m.csv") r below sentence None None before after s → s ≡ status.Pass
    → (unparsed : GridRules × Option DrillBounds × Option ℕ × ReportFormat) × (r ≡ Ok unparsed) × (entries : List Entry) × (manifest_in unparsed.0.profile m ≡ Ok entries) × (files : List (List ℕ)) × HasFiles (has_three_files m l d) entries files × IsSound (sources unparsed.0.profile entries files) unparsed.0
report_of_three below sentence m l d (Err why) before after s says is = absurd (usage_never_passes below why sentence before after s says is)
report_of_three below sentence m l d (Ok (rules, drilling, limit, form)) before after s says is = let (entries, listed, files, loaded, holds) = held m l d rules.profile _ (subst (IsParsedReportStatus (has_three_files m l d) (codes "m.csv") (Ok (rules, drilling, limit, form)) below sentence None None before after) is says).0 in ((rules, drilling, limit, form), refl, entries, listed, files, loaded, holds.sound (sym holds.judged.0))
