-- What a loader has under names, and what a status says of a command on a package.
use Rattle.std.specs.Prelude.{◌≡◌, ◌<◌, ◌≤◌, ◌⊎◌, ◌==◌, ◌&&◌, ◌-◌, ℕ, Bool, true, false, List, [], ◌∷◌, length, take, slice_get, Result, Ok, Err, ⊤, Option, None, Some, if◌then◌else◌}
use Rattle.std.specs.List.{count_by}
use Rattle.std.specs.Io.KnownBytes.{Appends}
use Rattle.grid_units.specs.Holes.{GridRules}
use Rattle.grid_units.specs.declared.profile.Profile.{Profile}
use Rattle.grid_units.specs.declared.fault.Fault.{Fault}
use Rattle.grid_units.specs.declared.fault.Reason.{Reason}
use Rattle.grid_units.specs.declared.fault.Reason.TheVariants.{BadRole}
use Rattle.manifest.specs.declared.Entry.{Entry}
use Rattle.manifest.specs.Manifest.{CsvRecord, csv_records, field, is_plain_text, manifest_in}
use Rattle.ringcheck_files.specs.declared.Status.{Status}
use Rattle.ringcheck_files.specs.declared.Status.TheVariants as status
use Rattle.ringcheck.specs.declared.refusals.RefusalStyle.{RefusalStyle}
use Rattle.ringcheck.specs.declared.refusals.RefusalStyle.TheVariants as style
use Rattle.ringcheck.specs.Refusals.{Refusal, PrintsRefusal, of_archive, of_file, of_manifest, of_role}
use Rattle.manifest.specs.Contents.{is_archive}
use Rattle.ringcheck_files.specs.LoaderRelation.{Relation, file_limit, too_long, within}
use Rattle.ringcheck_files.specs.Words.{IsExplainedUsage}
use Rattle.ringcheck_files.specs.Writers.{IsSilent, Written}
use Rattle.package_check.specs.Reports.{ReportView}
use Rattle.package_check.specs.Package.{FileView, IsFirstRefused, IsReport, Setting, is_copper}
use Rattle.package_check.specs.Soundness.{IsSound}
use Rattle.package_check.specs.SoundnessAsRead.{AreLegal}
use Rattle.package_check.specs.Texts.{report_text}

-- the sources that entries and the bytes of their files make, read in this
abbrev pub file_views_among : Setting → List Entry → List (List ℕ) → List FileView
file_views_among setting [] bytes = []
file_views_among setting (entry ∷ entries) [] = []
file_views_among setting (entry ∷ entries) (bytes ∷ rest) =
    record { role = entry.role; name = entry.name; said = entry.said; bytes = bytes; setting = setting } ∷ file_views_among setting entries rest

-- what the files of these entries are read in: in this profile, and with as many copper files as the entries name
abbrev pub setting_in : Profile → List Entry → Setting
setting_in profile entries = record { layers = count_by (λ entry. is_copper entry.role) entries; profile = profile }

-- the sources that the entries of a manifest and the bytes of their files make, where they are read in this profile
abbrev pub sources : Profile → List Entry → List (List ℕ) → List FileView
sources profile entries files = file_views_among (setting_in profile entries) entries files

-- the loader has these bytes for the files of these entries, one by one
abbrev pub HasFiles : Relation → List Entry → List (List ℕ) → Type 0
HasFiles has [] [] = ⊤
HasFiles has [] (bytes ∷ rest) = ⊥
HasFiles has (entry ∷ entries) [] = ⊥
HasFiles has (entry ∷ entries) (bytes ∷ rest) = has entry.file bytes × HasFiles has entries rest

-- the most bytes of a table: a manifest, or a file of waivers (docs/FORMATS.md, Limits)
abbrev pub manifest_limit : ℕ
manifest_limit = 1048576

-- the loader has under this name a table of this text with just these rows, not above its limit; `parse` reads the text
abbrev pub IsTable : {A : Type 0} → (List ℕ → Result (List A) Fault) → Relation → List ℕ → List ℕ → List A → Type 0
IsTable parse has name text rows = has name text × (length text ≤ manifest_limit) × (parse text ≡ Ok rows)

-- the loader has under this name a table with just these rows
abbrev pub HasTable : {A : Type 0} → (List ℕ → Result (List A) Fault) → Relation → List ℕ → List A → Type 0
HasTable parse has name rows = (text : List ℕ) × IsTable parse has name text rows

-- a record's role and its file name, where both are plain text
abbrev pub role_and_file : Option CsvRecord → Option (List ℕ × List ℕ)
role_and_file None = None
role_and_file (Some row) = if is_plain_text (field 0 row) && is_plain_text (field 2 row) then Some (field 0 row, field 2 row) else None

-- the role and the file name of the record of this number, from 1, in the text of a manifest
abbrev pub role_and_file_at : List ℕ → ℕ → Option (List ℕ × List ℕ)
role_and_file_at text number = role_and_file (slice_get (csv_records text) (number - 1))

-- whether a manifest is refused for this reason because of the role of a record
abbrev pub is_of_role : Reason → Bool
is_of_role BadRole = true
is_of_role _ = false

-- the refusal of a manifest with the role and the file name of its record, if these are known
abbrev pub refusal_of_record : Option (List ℕ × List ℕ) → Fault → Refusal
refusal_of_record None why = of_manifest why
refusal_of_record (Some (role, file)) why = of_role role file why

-- the refusal of a table of this text: of a manifest that is refused for a role it says which record has it
abbrev pub naming_record : List ℕ → Refusal → Refusal
naming_record text (of_manifest why) = if is_of_role why.reason then refusal_of_record (role_and_file_at text why.place) why else of_manifest why
naming_record text why = why

-- the refusal of a table of this text and this name: of a zip archive it says that it is one
abbrev pub refusal_of_text : List ℕ → List ℕ → Refusal → Refusal
refusal_of_text name text why = if is_archive text then of_archive name why else naming_record text why

-- a table of this text is refused: the text is above the limit, or it has a fault, as `parse` says; `plain` makes the refusal of a fault
abbrev pub RefusesText : {A : Type 0} → (List ℕ → Result (List A) Fault) → (Fault → Refusal) → List ℕ → List ℕ → Refusal → Type 0
RefusesText parse plain name text why =
    ((manifest_limit < length text) × (why ≡ plain too_long)) ⊎ ((fault : Fault) × (parse text ≡ Err fault) × (why ≡ refusal_of_text name text (plain fault)))

-- the loader has under this name a table that is refused for its length or its rows
abbrev pub RefusedTable : {A : Type 0} → (List ℕ → Result (List A) Fault) → (Fault → Refusal) → Relation → List ℕ → Refusal → Type 0
RefusedTable parse plain has name why = (text : List ℕ) × has name text × RefusesText parse plain name text why

-- a package that the loader has under this name: its manifest, and files of which none is above its limit; `Holds` is true of the manifest's text and
-- entries, and of the files as they are read in this profile
pub record HoldsForPackage (has : Relation) (profile : Profile) (name : List ℕ) (Holds : List ℕ → List Entry → List FileView → Type 0) : Type 0 where
  pub entries : List Entry
  pub text : List ℕ
  pub listed : IsTable (manifest_in profile) has name text entries
  pub files : List (List ℕ)
  pub loaded : HasFiles (within file_limit has) entries files
  pub holds : Holds text entries (sources profile entries files)

-- the loader has bytes above the limit for the entry at this index, and bytes within the limit for each entry before it
pub record LongFile (has : Relation) (entries : List Entry) (index : ℕ) (entry : Entry) : Type 0 where
  pub files : List (List ℕ)
  pub before : HasFiles (within file_limit has) (take index entries) files
  pub at : slice_get entries index ≡ Some entry
  pub bytes : List ℕ
  pub loaded : has entry.file bytes
  pub long : file_limit < length bytes

-- the first of these files that is refused, by its index, its name and its fault
pub record RefusedAmong (all : List FileView) (why : Refusal) : Type 0 where
  pub index : ℕ
  pub fault : Fault
  pub first : IsFirstRefused all index fault
  pub source : FileView
  pub at : slice_get all index ≡ Some source
  pub is : why ≡ of_file index source.name fault

-- the file of one of these entries is refused: the loader has bytes above the limit for it, or it is the first file that a check refuses in this profile
pub data RefusedFile (has : Relation) (profile : Profile) (entries : List Entry) (why : Refusal) : Type 0 where
  long_file : (index : ℕ) (entry : Entry) → LongFile has entries index entry → why ≡ of_file index entry.name too_long → RefusedFile has profile entries why
  bad_file : (files : List (List ℕ)) → HasFiles (within file_limit has) entries files → RefusedAmong (sources profile entries files) why → RefusedFile has profile entries why

-- bytes that the loader has are refused: the manifest under this name, or, in this profile, a file that it names
pub data IsPackageRefusal (has : Relation) (profile : Profile) (name : List ℕ) (why : Refusal) : Type 0 where
  refused_manifest : RefusedTable (manifest_in profile) of_manifest has name why → IsPackageRefusal has profile name why
  refused_file : (entries : List Entry) → HasTable (manifest_in profile) has name entries → RefusedFile has profile entries why → IsPackageRefusal has profile name why

-- such bytes are refused, and just the text of the refusal was written, and beside it its sentence
pub record PrintsPackageRefusal (has : Relation) (profile : Profile) (name : List ℕ) (refusal_style : RefusalStyle) (before after : Written) : Type 0 where
  pub why : Refusal
  pub refused : IsPackageRefusal has profile name why
  pub printed : PrintsRefusal refusal_style why before after

-- what a status says of a command on the manifest and the files of a package that is read in this profile: where it passes, or has findings, `Holds` says so of the
-- manifest's text and entries and of the files, and nothing was said beside it; a refusal, which is the same under any rules, was printed in this style
abbrev pub SaysManifest : Relation → Profile → List ℕ → (List ℕ → List Entry → Bool → List FileView → Type 0) → RefusalStyle → Written → Written → Status
    → Type 0
SaysManifest has profile name Holds refusal_style before after status.Pass =
    HoldsForPackage has profile name (λ text entries. Holds text entries true) × IsSilent before after
SaysManifest has profile name Holds refusal_style before after status.Findings =
    HoldsForPackage has profile name (λ text entries. Holds text entries false) × IsSilent before after
SaysManifest has profile name Holds refusal_style before after status.Refused = PrintsPackageRefusal has profile name refusal_style before after
SaysManifest has profile name Holds refusal_style before after status.Usage = ⊥
SaysManifest has profile name Holds refusal_style before after status.Device = ⊤

-- what a status says of a command on the files of a package
abbrev pub SaysPackage : Relation → Profile → List ℕ → (Bool → List FileView → Type 0) → RefusalStyle → Written → Written → Status → Type 0
SaysPackage has profile name Holds = SaysManifest has profile name (λ text entries. Holds)

-- the status of a command on a package that passes, or that has findings
abbrev pub status_of : Bool → Status
status_of passes = if passes then status.Pass else status.Findings

-- the writer got just the text of the report on these files, each of which is of the profile; the check passes where it has no finding, and then
-- the files are sound
pub record Checks (rules : GridRules) (before after : Option (List ℕ)) (passes : Bool) (all : List FileView) : Type 0 where
  pub report : ReportView
  pub is : IsReport all rules report
  pub legal : AreLegal all
  pub written : Appends before after (report_text all report)
  pub passed : passes ≡ (length report.findings == 0)
  pub sound : passes ≡ true → IsSound all rules

-- what a status says of a check of a package under these rules, in their profile
abbrev pub IsCheckStatus : Relation → List ℕ → GridRules → Written → Written → Status → Type 0
IsCheckStatus has name rules before after s = SaysPackage has rules.profile name (Checks rules before.0 after.0) style.Line before after s

-- what a status says of a check under the rules that words name, or where these are refused, and beside the line this sentence says why
abbrev pub IsParsedCheckStatus : Relation → List ℕ → Result GridRules Reason → List ℕ → Written → Written → Status → Type 0
IsParsedCheckStatus has name (Ok rules) sentence before after s = IsCheckStatus has name rules before after s
IsParsedCheckStatus has name (Err why) sentence before after s = IsExplainedUsage false why sentence before after s
