-- What follows for a package from what is said of its manifest and of its files.
use Rattle.print_text.specs.Drilling.{DrillBounds}
use Rattle.ringcheck.proofs.Common.{◌≡◌, ◌<◌, ◌≤◌, ◌∷◌, [], inl, inr, ℕ, zero, suc, Bool, true, false, List, Some, Result, Ok, Err, IfOk, length, map, take, arith, refl, subst, sym, ◌==◌, slice_get, eqb-true, false≢true, nil_from_length, IfOk-weaker, Profile, Entry, manifest_in, FileView, Status, HasCause, HasRisen, file_limit, within, IsSilent, Written, Halt, AfterHalt, AfterNoTable, Halts, HaltsTable, OfFiles, refusal, Refusal, PackageFault, PrintsRefusal, of_archive, of_role, HasFiles, IsTable, HoldsForPackage, RefusedFile, IsPackageRefusal, RefusedAmong, SaysManifest, bad_file, long_file, refused_file, refused_manifest, setting_in, sources, status_of, None, ReportFormat, IsOutlinedStatus, IsReportStatus, Reports, report_style, GridRules, Option}
use Rattle.std.specs.Prelude.{◌&&◌}
use Rattle.grid_units.specs.declared.fault.Fault.{Fault}
use Rattle.package_check.specs.Package.{IsFirstRefused}
use Rattle.package_check.specs.declared.PackageFault.TheVariants as stop
use Rattle.ringcheck.specs.Inner.Halting.{OfRead}
use Rattle.ringcheck_files.specs.declared.Status.TheVariants as status
use Rattle.waivers.specs.declared.Waiver.{Waiver}
use Rattle.ringcheck_files.specs.declared.outcomes.Failure.{Failure}
use Rattle.ringcheck.specs.declared.refusals.Halt.TheVariants as halt
use Rattle.ringcheck.specs.declared.refusals.NoTable.{NoTable}
use Rattle.ringcheck.specs.declared.refusals.NoTable.TheVariants as none
use Rattle.ringcheck.specs.declared.refusals.RefusalStyle.{RefusalStyle}
use Rattle.std.specs.Global.{Vec}
use Rattle.pad_shapes.specs.declared.drawn.Drawn.{Drawn}
use Rattle.ringcheck.specs.Inner.Outlines.{AfterNoOutline, OfOutline}
use Rattle.ringcheck.specs.declared.outlines.NoOutline.{NoOutline}
use Rattle.ringcheck.specs.declared.outlines.NoOutline.TheVariants as no
use Rattle.ringcheck.proofs.LoadSteps.{has_files_along, names_among, same_length}

-- ---- findings

-- two that are true
both_true : (a b : Bool) → (a && b) ≡ true → (a ≡ true) × (b ≡ true)
both_true true b is = (refl, is)
both_true false b is = absurd (false≢true is)

-- a list that is empty by its length
pub none_left : {X : Type 0} (xs : List X) → (length xs == 0) ≡ true → xs ≡ []
none_left xs is = nil_from_length xs (eqb-true (length xs) 0 is)

-- two lists that are empty by their lengths
pub neither_left : {X Y : Type 0} (xs : List X) (ys : List Y) → ((length xs == 0) && (length ys == 0)) ≡ true → (xs ≡ []) × (ys ≡ [])
neither_left xs ys is = let (first, second) = both_true (length xs == 0) (length ys == 0) is in (none_left xs first, none_left ys second)

-- ---- files

-- the file at a place, and its name
pub source_at : (all : List FileView) (i : ℕ) → i < length all → (it : FileView) × (slice_get all i ≡ Some it) × (slice_get (map (λ (s : FileView). s.name) all) i ≡ Some it.name)
source_at [] i lt = absurd (omega (arith, lt))
source_at (s ∷ ss) zero lt = (s, refl, refl)
source_at (s ∷ ss) (suc i) lt = source_at ss i (omega (arith, lt))

-- the names of entries are those of their files
pub names_loaded : (has : List ℕ → List ℕ → Type 0) (profile : Profile) (entries : List Entry) (files : List (List ℕ)) → HasFiles has entries files → map (λ (e : Entry). e.name) entries ≡ map (λ (s : FileView). s.name) (sources profile entries files)
names_loaded has profile entries files held = sym (names_among (setting_in profile entries) entries files (same_length has entries files held))

-- ---- what came of files

-- a file that was taken is refused, so a file that was loaded is
pub refused_among : (has : List ℕ → List ℕ → Type 0) (profile : Profile) (entries : List Entry) (Risen : Type 0) (files : List (List ℕ)) → HasFiles (within file_limit has) entries files → (h : Halt)
    → Halts (RefusedAmong (sources profile entries files)) ⊥ h → Halts (RefusedFile has profile entries) Risen h
refused_among has profile entries Risen files held (halt.Refused what why) h = bad_file files held h
refused_among has profile entries Risen files held (halt.Archive what why name) h = bad_file files held h
refused_among has profile entries Risen files held (halt.Unread what path) h = absurd h

-- what was read of files that were loaded, or the first of them that is refused
pub of_read : {A : Type 0} (has : List ℕ → List ℕ → Type 0) (profile : Profile) (entries : List Entry) (Risen : Type 0) (files : List (List ℕ)) (Holds : A → List FileView → Type 0) → HasFiles (within file_limit has) entries files → (read : Result A PackageFault)
    → ((it : A) → read ≡ Ok it → Holds it (sources profile entries files)) → ((index : ℕ) (fault : Fault) → read ≡ Err (stop.File index fault) → IsFirstRefused (sources profile entries files) index fault) → (done : Result A Halt)
    → OfRead entries read done → OfFiles has profile entries Risen Holds done
of_read has profile entries Risen files Holds held (Ok it) holds first done is = subst (OfFiles has profile entries Risen Holds) (sym is) (files, held, holds it refl)
of_read has profile entries Risen files Holds held (Err stop.Memory) holds first done is = absurd is
of_read has profile entries Risen files Holds held (Err (stop.File index fault)) holds first (Ok it) is = absurd is
of_read has profile entries Risen files Holds held (Err (stop.File index fault)) holds first (Err halt) is =
    refused_among has profile entries Risen files held halt (is (sources profile entries files) (names_loaded (within file_limit has) profile entries files held) (first index fault refl))

-- a halt was printed
module _ (Is : Refusal → Type 0) (Risen : Type 0) (refusal_style : RefusalStyle) (before after : Written) (P : Status → Type 0) where
  pub halted : (Risen → P status.Device) → ((why : Refusal) → Is why → PrintsRefusal refusal_style why before after → P status.Refused) → (h : Halt) → Halts Is Risen h
      → (r : Result Status Failure) → IfOk r (AfterHalt refusal_style h before after) → IfOk r P
  halted device refused (halt.Refused what why) is r printed =
      IfOk-weaker r (AfterHalt refusal_style (halt.Refused what why) before after) P (λ s p. subst P (sym p.0) (refused (refusal what why) is p.1)) printed
  halted device refused (halt.Archive what why name) is r printed =
      IfOk-weaker r (AfterHalt refusal_style (halt.Archive what why name) before after) P (λ s p. subst P (sym p.0) (refused (of_archive name.now (refusal what why)) is p.1)) printed
  halted device refused (halt.Unread what path) risen r printed = IfOk-weaker r (AfterHalt refusal_style (halt.Unread what path) before after) P (λ s p. subst P (sym p.0) (device risen)) printed

-- it was printed why there is no table
module _ (Is : Refusal → Type 0) (Risen : Type 0) (refusal_style : RefusalStyle) (before after : Written) (P : Status → Type 0) where
  pub table_halted : (Risen → P status.Device) → ((why : Refusal) → Is why → PrintsRefusal refusal_style why before after → P status.Refused) → (h : NoTable) → HaltsTable Is Risen h
      → (r : Result Status Failure) → IfOk r (AfterNoTable refusal_style h before after) → IfOk r P
  table_halted device refused (none.Halted h) is r printed = halted Is Risen refusal_style before after P device refused h is r printed
  table_halted device refused (none.Role why row) is r printed =
      IfOk-weaker r (AfterNoTable refusal_style (none.Role why row) before after) P (λ s p. subst P (sym p.0) (refused (of_role row.role row.file why) is p.1)) printed

-- ---- what a loader has

-- a count that rose since a later time rose since an earlier one
pub risen_since : (old middle new : ℕ) → old ≤ middle → HasRisen middle new → HasRisen old new
risen_since old middle new le (inl more) = inl (omega arith)
risen_since old middle new le (inr last) = inr last

-- what is held or refused by a loader that has no more is so by one that has more
module _ (later has : List ℕ → List ℕ → Type 0) (to : (n b : List ℕ) → later n b → has n b) where
  pub files_along : (entries : List Entry) (files : List (List ℕ)) → HasFiles (within file_limit later) entries files → HasFiles (within file_limit has) entries files
  files_along entries files h = has_files_along (within file_limit later) (within file_limit has) (λ n b w. (to n b w.0, w.1)) entries files h

  pub file_along : (profile : Profile) (entries : List Entry) (why : Refusal) → RefusedFile later profile entries why → RefusedFile has profile entries why
  file_along profile entries why (long_file index entry h is) =
      long_file index entry
      (record { files = h.files; before = files_along (take index entries) h.files h.before; at = h.at; bytes = h.bytes; loaded = to entry.file h.bytes h.loaded; long = h.long }) is
  file_along profile entries why (bad_file files held refused) = bad_file files (files_along entries files held) refused

  module _ (profile : Profile) (name : List ℕ) where
    listed_along : (text : List ℕ) (entries : List Entry) → IsTable (manifest_in profile) later name text entries → IsTable (manifest_in profile) has name text entries
    listed_along text entries h = (to name text h.0, h.1, h.2)

    pub package_along : (Holds : List ℕ → List Entry → List FileView → Type 0) → HoldsForPackage later profile name Holds → HoldsForPackage has profile name Holds
    package_along Holds h = record { entries = h.entries; text = h.text; listed = listed_along h.text h.entries h.listed; files = h.files; loaded = files_along h.entries h.files h.loaded; holds = h.holds }

    pub refused_along : (why : Refusal) → IsPackageRefusal later profile name why → IsPackageRefusal has profile name why
    refused_along why (refused_manifest h) = refused_manifest (h.0, to name h.0 h.1, h.2)
    refused_along why (refused_file entries listed file) = refused_file entries (listed.0, listed_along listed.0 entries listed.1) (file_along profile entries why file)

    pub says_along : (Holds : List ℕ → List Entry → Bool → List FileView → Type 0) (refusal_style : RefusalStyle) (before after : Written) (s : Status) → SaysManifest later profile name Holds refusal_style before after s
        → SaysManifest has profile name Holds refusal_style before after s
    says_along Holds refusal_style before after status.Pass h = (package_along (λ text entries. Holds text entries true) h.0, h.1)
    says_along Holds refusal_style before after status.Findings h = (package_along (λ text entries. Holds text entries false) h.0, h.1)
    says_along Holds refusal_style before after status.Refused h = record { why = h.why; refused = refused_along h.why h.refused; printed = h.printed }
    says_along Holds refusal_style before after status.Usage h = absurd h
    says_along Holds refusal_style before after status.Device h = tt

-- a command passes on a package, or has findings
pub worked : (has : List ℕ → List ℕ → Type 0) (profile : Profile) (name : List ℕ) (Holds : List ℕ → List Entry → Bool → List FileView → Type 0) (refusal_style : RefusalStyle) (before after : Written) (text : List ℕ) (entries : List Entry) (files : List (List ℕ))
    → IsTable (manifest_in profile) has name text entries → HasFiles (within file_limit has) entries files → (passes : Bool) → Holds text entries passes (sources profile entries files) → IsSilent before after
    → SaysManifest has profile name Holds refusal_style before after (status_of passes)
worked has profile name Holds refusal_style before after text entries files listed loaded true h silent = (record { entries = entries; text = text; listed = listed; files = files; loaded = loaded; holds = h }, silent)
worked has profile name Holds refusal_style before after text entries files listed loaded false h silent = (record { entries = entries; text = text; listed = listed; files = files; loaded = loaded; holds = h }, silent)

-- ---- outlines

-- an outline was loaded, if one is named, and a status says what it says of it
pub with_outline : (has : List ℕ → List ℕ → Type 0) (file : Option (List ℕ)) (Risen : Type 0) (outline : Vec Drawn) (Says : List Drawn → Status → Type 0) (before after : Written) → OfOutline has file Risen (Ok outline) → (s : Status)
    → Says outline.items s → IsOutlinedStatus has file Says before after s
with_outline has None Risen outline Says before after none s h = subst (λ (parts : List Drawn). Says parts s) none h
with_outline has (Some file) Risen outline Says before after had s h = inr (inr (outline.items, had, h))

-- it was printed why there is no outline
pub no_outline : (has : List ℕ → List ℕ → Type 0) (file : Option (List ℕ)) (Risen : Type 0) (why : NoOutline) (Says : List Drawn → Status → Type 0) (before after : Written) → OfOutline has file Risen (Err why) → IsSilent before after → (s : Status)
    → AfterNoOutline why before.0 after.0 s → IsOutlinedStatus has file Says before after s
no_outline has None Risen why Says before after is silent s h = absurd is
no_outline has (Some file) Risen (no.Refused why) Says before after is silent s h = inl (h.0, (why, is, h.1, silent))
no_outline has (Some file) Risen no.Unread Says before after risen silent s h = inr (inl h)

-- and the status has its cause
pub no_outline_cause : (has : List ℕ → List ℕ → Type 0) (file : Option (List ℕ)) (old new : ℕ) (why : NoOutline) (before after : Option (List ℕ)) → OfOutline has file (HasRisen old new) (Err why) → (s : Status) → AfterNoOutline why before after s → HasCause old new s
no_outline_cause has None old new why before after is s h = absurd is
no_outline_cause has (Some file) old new (no.Refused why) before after is s h = subst (HasCause old new) (sym h.0) tt
no_outline_cause has (Some file) old new no.Unread before after risen s h = subst (HasCause old new) (sym h) risen

-- what a status says where an outline may be named, by a loader that has no more
pub outlined_along : (later has : List ℕ → List ℕ → Type 0) → ((n b : List ℕ) → later n b → has n b) → (Says' Says : List Drawn → Status → Type 0) → ((parts : List Drawn) (s : Status) → Says' parts s → Says parts s)
    → (file : Option (List ℕ)) (before after : Written) (s : Status) → IsOutlinedStatus later file Says' before after s → IsOutlinedStatus has file Says before after s
outlined_along later has to Says' Says more None before after s h = more [] s h
outlined_along later has to Says' Says more (Some file) before after s (inl (is, (why, (text, had, refused), printed, silent))) = inl (is, (why, (text, to file text had, refused), printed, silent))
outlined_along later has to Says' Says more (Some file) before after s (inr (inl is)) = inr (inl is)
outlined_along later has to Says' Says more (Some file) before after s (inr (inr (outline, (text, (had, short), reads), h))) = inr (inr (outline, (text, (to file text had, short), reads), more outline s h))

-- what a status says of a report for which an outline may be named
pub report_outlined_along : (later has : List ℕ → List ℕ → Type 0) → ((n b : List ℕ) → later n b → has n b) → (name : List ℕ) (rules : GridRules) (drilling : Option DrillBounds) (limit : Option ℕ) (form : ReportFormat) (waivers : Option (List Waiver)) (outline : Option (List ℕ)) (before after : Written) (s : Status)
    → IsOutlinedStatus later outline (λ parts. IsReportStatus later name rules drilling limit form waivers parts before after) before after s → IsOutlinedStatus has outline (λ parts. IsReportStatus has name rules drilling limit form waivers parts before after) before after s
report_outlined_along later has to name rules drilling limit form waivers outline before after =
    outlined_along later has to (λ parts. IsReportStatus later name rules drilling limit form waivers parts before after) (λ parts. IsReportStatus has name rules drilling limit form waivers parts before after)
    (λ parts. says_along later has to rules.profile name (λ text entries. Reports name rules drilling limit form waivers parts before.0 after.0) (report_style form) before after) outline before after
