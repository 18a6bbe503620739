-- The files of a package while they are loaded, those of one kind before those of the other.
use Rattle.std.specs.Prelude.{◌≡◌, ◌<◌, ◌++◌, ◌||◌, ◌&&◌, nat_lt, ℕ, Bool, true, false, List, [], length, get_or, set, slice_get, Option, None, Some, Result, Ok, Err}
use Rattle.std.specs.List.{count_by}
use Rattle.sha2.specs.Sha256.{sha256}
use Rattle.grid_units.specs.Holes.{GridRules}
use Rattle.grid_units.specs.declared.profile.Profile.{Profile}
use Rattle.board.specs.Boards.{BoardView}
use Rattle.layer_features.specs.Kept.{keeps_drawn, keeps_rows}
use Rattle.layer_features.specs.declared.keep.Keep.{Keep}
use Rattle.manifest.specs.declared.Entry.{Entry}
use Rattle.manifest.specs.declared.Role.{Role}
use Rattle.manifest.specs.declared.Said.{Said}
use Rattle.package_check.specs.CheckViews.{CheckView, setting_of}
use Rattle.package_check.specs.Checking.{HasJudged, TakesCopper}
use Rattle.package_check.specs.Holding.{HasTaken, TakesFile, is_kind, setting_of as reader_setting}
use Rattle.package_check.specs.OpenFiles.{HasOpened, HasOpenedCopper}
use Rattle.package_check.specs.Boards.{IsBoard, IsDrawnBoard, IsFlashedBoard}
use Rattle.package_check.specs.Package.{FileView, IsReport, Setting, is_copper}
use Rattle.package_check.specs.Reports.{ReportView}
use Rattle.package_check.specs.Soundness.{IsSound}
use Rattle.package_check.specs.SoundnessAsRead.{AreLegal}
use Rattle.package_check.specs.declared.open_file.OpenFile.{OpenFile}
use Rattle.package_check.specs.declared.package_reader.PackageReader.{PackageReader}
use Rattle.ringcheck_files.specs.LoaderRelation.{Relation, file_limit, too_long, within}
use Rattle.ringcheck.specs.CheckStatus.{setting_in, sources}
use Rattle.ringcheck.specs.Inner.Digests.{AreDigestsOf}
use Rattle.ringcheck.specs.Inner.Halting.{Halts}
use Rattle.ringcheck.specs.Refusals.{Refusal, of_file}
use Rattle.ringcheck.specs.declared.load_package.CheckSink.{CheckSink}
use Rattle.ringcheck.specs.declared.refusals.Halt.{Halt}

-- how many of the entries are copper
abbrev pub copper_entries : List Entry → ℕ
copper_entries entries = count_by (λ entry. is_copper entry.role) entries

-- the file of an entry with these bytes, read in this
abbrev pub source : Setting → Entry → List ℕ → FileView
source setting entry bytes = record { role = entry.role; name = entry.name; said = entry.said; bytes = bytes; setting = setting }

-- whether an entry is there, and is of this kind
abbrev pub is_kind_of : Bool → Option Entry → Bool
is_kind_of copper None = false
is_kind_of copper (Some entry) = is_kind copper entry.role

-- whether the entry at an index is of this kind
abbrev pub is_kind_at : Bool → List Entry → ℕ → Bool
is_kind_at copper entries i = is_kind_of copper (slice_get entries i)

-- these entries are the first of all
abbrev pub AreFirstOf : List Entry → List Entry → Type 0
AreFirstOf entries all = (i : ℕ) (entry : Entry) → slice_get entries i ≡ Some entry → slice_get all i ≡ Some entry

-- the loader has bytes above the limit for an entry, which is refused by its index and its name
pub record RefusesLong (has : Relation) (index : ℕ) (entry : Entry) (why : Refusal) : Type 0 where
  pub bytes : List ℕ
  pub loaded : has entry.file bytes
  pub long : file_limit < length bytes
  pub is : why ≡ of_file index entry.name too_long

-- what came of handing on the file of an entry: its bytes were taken, as `IsTaken` says; or why it cannot be loaded
abbrev pub OfHandedFile : Relation → ℕ → Entry → (List ℕ → Type 0) → Type 0 → Option Halt → Type 0
OfHandedFile has index entry IsTaken Risen None = (bytes : List ℕ) × within file_limit has entry.file bytes × IsTaken bytes
OfHandedFile has index entry IsTaken Risen (Some halt) = Halts (RefusesLong has index entry) Risen halt

-- between two states an open file has read just these bytes, whatever file of whatever package it is
abbrev pub GoesOn : OpenFile → OpenFile → List ℕ → Type 0
GoesOn start now bytes = (reader : PackageReader) (index : ℕ) (of : Role) (said : Said) (text : List ℕ)
    → HasOpened reader index of said start text → HasOpened reader index of said now (text ++ bytes)

-- between two states the open copper file of a check has read just these bytes, whatever file it is
abbrev pub CopperGoesOn : CheckSink → CheckSink → List ℕ → Type 0
CopperGoesOn start now bytes =
    (first : CheckView) (index layer : ℕ) (said : Said) (text : List ℕ)
    → HasOpenedCopper first start.check index layer said start.file text → HasOpenedCopper first now.check index layer said now.file (text ++ bytes)

-- the file of an entry was loaded, a reader has taken it, and its digest is in its place, if it has one
abbrev pub LoadsFile : Relation → PackageReader → PackageReader → List (List ℕ) → List (List ℕ) → ℕ → Entry → Type 0
LoadsFile has before after digests digests_after index entry = (bytes : List ℕ) × within file_limit has entry.file bytes
    × TakesFile before after index (source (reader_setting before) entry bytes) × (digests_after ≡ set digests index (sha256 bytes))

-- what came of handing the file of an entry to a reader: that it has taken it, or why the file cannot be loaded
abbrev pub OfTakenFile : Relation → PackageReader → PackageReader → List (List ℕ) → List (List ℕ) → ℕ → Entry → Type 0 → Option Halt → Type 0
OfTakenFile has before after digests digests_after index entry Risen None = LoadsFile has before after digests digests_after index entry
OfTakenFile has before after digests digests_after index entry Risen (Some halt) =
    Halts (RefusesLong has index entry) Risen halt × (after ≡ before) × (digests_after ≡ digests)

-- where the files of some entries were gone through, the first that cannot be loaded, and why; or all were loaded
abbrev pub EndsAt : Relation → List Entry → Type 0 → ℕ → Option Halt → Type 0
EndsAt has entries Risen end None = end ≡ length entries
EndsAt has entries Risen end (Some halt) = (entry : Entry) × (slice_get entries end ≡ Some entry) × Halts (RefusesLong has end entry) Risen halt

-- Of the files of these entries those at the indexes that `done` is true of were loaded, and taken, as `Taken` says of all files, read in this profile, and of these indexes.
-- Nothing is said of the bytes of the other files.
pub record HasLoaded (has : Relation) (profile : Profile) (entries : List Entry) (Taken : List FileView → (ℕ → Bool) → Type 0) (done : ℕ → Bool) : Type 0 where
  pub files : List (List ℕ)
  pub size : length files ≡ length entries
  pub loaded : (i : ℕ) (entry : Entry) → done i ≡ true → slice_get entries i ≡ Some entry → within file_limit has entry.file (get_or files i [])
  pub taken : Taken (sources profile entries files) done

-- a reader has taken the files at some indexes, and these are their digests
abbrev pub HasTakenHashed : PackageReader → Keep → List (List ℕ) → List FileView → (ℕ → Bool) → Type 0
HasTakenHashed reader keep digests files done = HasTaken reader keep files done × AreDigestsOf digests files done

-- Between two states of a reader the files of one kind below an index were loaded, and the reader has taken them. These are the files of the first entries of some
-- list, whichever it is, of which other files were loaded before.
abbrev pub LoadsKind : Relation → List Entry → PackageReader → PackageReader → List (List ℕ) → List (List ℕ) → Bool → ℕ → Type 0
LoadsKind has entries before after digests digests_after copper end =
    (profile : Profile) (all : List Entry) (keep : Keep) (done : ℕ → Bool) → AreFirstOf entries all
    → reader_setting before ≡ setting_in profile all
    → ((i : ℕ) → is_kind_at copper all i ≡ true → done i ≡ false) → HasLoaded has profile all (HasTakenHashed before keep digests) done
    → HasLoaded has profile all (HasTakenHashed after keep digests_after) (λ i. done i || (nat_lt i end && is_kind_at copper all i))

-- ---- the check

-- the copper file of an entry was loaded, a check has taken it, its layer having this number, and its digest is in its place, if it has one
abbrev pub LoadsCopper : Relation → CheckView → CheckView → List (List ℕ) → List (List ℕ) → ℕ → ℕ → Entry → Type 0
LoadsCopper has before after digests digests_after index layer entry = (bytes : List ℕ) × within file_limit has entry.file bytes
    × TakesCopper before after index layer (source (setting_of before) entry bytes) × (digests_after ≡ set digests index (sha256 bytes))

-- what came of handing the copper file of an entry to a check: the check, which has taken it; or why the file cannot be loaded
abbrev pub OfCheckedFile : Relation → CheckView → List (List ℕ) → List (List ℕ) → ℕ → ℕ → Entry → Type 0 → Result CheckView Halt → Type 0
OfCheckedFile has before digests digests_after index layer entry Risen (Ok after) =
    LoadsCopper has before after digests digests_after index layer entry × (setting_of after ≡ setting_of before)
OfCheckedFile has before digests digests_after index layer entry Risen (Err halt) = Halts (RefusesLong has index entry) Risen halt

-- a check has taken the files at some indexes, and these are their digests
abbrev pub HasJudgedHashed : CheckView → GridRules → List (List ℕ) → List FileView → (ℕ → Bool) → Type 0
HasJudgedHashed check rules digests files done = HasJudged check files rules done × AreDigestsOf digests files done

-- between two states of a check the copper files of these entries below an index were loaded, and the check has taken them; other files were loaded before
abbrev pub LoadsCopperTo : Relation → List Entry → CheckView → CheckView → List (List ℕ) → List (List ℕ) → ℕ → Type 0
LoadsCopperTo has entries before after digests digests_after end = (profile : Profile) (rules : GridRules) (done : ℕ → Bool)
    → setting_of before ≡ setting_in profile entries → ((i : ℕ) → is_kind_at true entries i ≡ true → done i ≡ false)
    → HasLoaded has profile entries (HasJudgedHashed before rules digests) done
    → HasLoaded has profile entries (HasJudgedHashed after rules digests_after) (λ i. done i || (nat_lt i end && is_kind_at true entries i))

-- what came of handing the copper files of these entries to a check: the check, which has taken them; or why the first of them that cannot be loaded
-- cannot be, those before it having been taken
abbrev pub OfCheckedCopper : Relation → List Entry → CheckView → List (List ℕ) → List (List ℕ) → Type 0 → Result CheckView Halt → Type 0
OfCheckedCopper has entries before digests digests_after Risen (Ok after) = LoadsCopperTo has entries before after digests digests_after (length entries)
OfCheckedCopper has entries before digests digests_after Risen (Err halt) = (end : ℕ) × EndsAt has entries Risen end (Some halt) × (last : CheckView)
    × (last_digests : List (List ℕ)) × LoadsCopperTo has entries before last digests last_digests end

-- ---- what comes of all files

-- the board of these files, with this kept of them
pub record IsKeptBoard (keep : Keep) (board : BoardView) (all : List FileView) : Type 0 where
  pub is : IsBoard all board
  pub flashed : keeps_rows keep ≡ true → IsFlashedBoard all board
  pub drawn : keeps_drawn keep ≡ true → IsDrawnBoard all board

-- the report of the check of these files, each of which is of the profile; without a finding they are sound
pub record IsCheckReport (rules : GridRules) (report : ReportView) (all : List FileView) : Type 0 where
  pub is : IsReport all rules report
  pub legal : AreLegal all
  pub sound : report.findings ≡ [] → IsSound all rules

-- that report, and the digests of the files, where there are places for them
abbrev pub IsHashedReport : GridRules → List (List ℕ) → ReportView → List FileView → Type 0
IsHashedReport rules digests report all = IsCheckReport rules report all × AreDigestsOf digests all (λ i. true)
