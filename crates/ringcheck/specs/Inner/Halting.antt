-- Why nothing is done with a package, and what its printing says.
use Rattle.std.specs.Prelude.{◌≡◌, ℕ, Bool, false, List, Option, Some, None, Result, Ok, Err, map, ⊤}
use Rattle.grid_units.specs.declared.fault.Fault.{Fault}
use Rattle.grid_units.specs.declared.fault.Reason.{Reason}
use Rattle.grid_units.specs.declared.profile.Profile.{Profile}
use Rattle.manifest.specs.declared.Entry.{Entry}
use Rattle.package_check.specs.Package.{FileView, IsFirstRefused}
use Rattle.package_check.specs.declared.PackageFault.{PackageFault}
use Rattle.package_check.specs.declared.PackageFault.TheVariants as stop
use Rattle.ringcheck_files.specs.Containers.{archive_sentence}
use Rattle.ringcheck_files.specs.LoaderRelation.{Relation, file_limit, within}
use Rattle.ringcheck_files.specs.Words.{Says}
use Rattle.ringcheck_files.specs.Writers.{Written}
use Rattle.ringcheck_files.specs.declared.Status.{Status}
use Rattle.ringcheck_files.specs.declared.Status.TheVariants as status
use Rattle.ringcheck.specs.declared.load_package.LoadedTable.{LoadedTable}
use Rattle.ringcheck.specs.declared.refusals.Halt.{Halt}
use Rattle.ringcheck.specs.declared.refusals.Halt.TheVariants as halt
use Rattle.ringcheck.specs.declared.refusals.NoTable.{NoTable}
use Rattle.ringcheck.specs.declared.refusals.NoTable.TheVariants as none
use Rattle.ringcheck.specs.declared.refusals.RefusalStyle.{RefusalStyle}
use Rattle.ringcheck.specs.declared.refusals.RefusalSentence.{RefusalSentence}
use Rattle.ringcheck.specs.declared.refusals.RefusalSentence.TheVariants as sentence
use Rattle.ringcheck.specs.declared.refusals.Subject.{Subject}
use Rattle.ringcheck.specs.declared.refusals.Subject.TheVariants as subject
use Rattle.ringcheck.specs.declared.refusals.UnreadWords.{UnreadWords}
use Rattle.std.specs.Io.KnownBytes.{Appends}
use Rattle.ringcheck.specs.Sentences.{unread_text, unread_words}
use Rattle.ringcheck.specs.Refusals.{Refusal, PrintsRefusal, beside, of_archive, of_explained, of_file, of_manifest, of_role, of_waivers, role_sentence}
use Rattle.ringcheck.specs.CheckStatus.{HasFiles, IsTable, RefusedAmong, RefusedFile, RefusedTable, is_of_role, sources}

-- the refusal of a subject, with its fault
abbrev pub refusal : Subject → Fault → Refusal
refusal subject.Manifest why = of_manifest why
refusal subject.Waivers why = of_waivers why
refusal (subject.File index name) why = of_file index name.now why

-- the refusal of a halt; none where something cannot be read
abbrev pub refusal_of : Halt → Option Refusal
refusal_of (halt.Refused what why) = Some (refusal what why)
refusal_of (halt.Archive what why name) = Some (of_archive name.now (refusal what why))
refusal_of (halt.Unread what path) = None

-- what is said of a refusal
abbrev pub refusal_sentence : RefusalSentence → List ℕ
refusal_sentence (sentence.Archive name) = archive_sentence name.now
refusal_sentence (sentence.Role number role file) = role_sentence number role.now file.now

-- the refusal of a subject, of which this sentence is said
abbrev pub explained_refusal : RefusalSentence → Subject → Fault → Refusal
explained_refusal said what why = of_explained (refusal_sentence said) (refusal what why)

-- what a halt says: `Is` of the refusal, or `Risen` where something cannot be read
abbrev pub Halts : (Refusal → Type 0) → Type 0 → Halt → Type 0
Halts Is Risen (halt.Refused what why) = Is (refusal what why)
Halts Is Risen (halt.Archive what why name) = Is (of_archive name.now (refusal what why))
Halts Is Risen (halt.Unread what path) = Risen

-- what cannot be read was looked for by this name
abbrev pub IsOfPath : List ℕ → Halt → Type 0
IsOfPath path (halt.Unread what at) = at.now ≡ path
IsOfPath path _ = ⊤

-- just the text of something that cannot be read was written in this style, and beside it its sentence; it was looked for by this name
abbrev pub PrintsUnread : RefusalStyle → Subject → List ℕ → Written → Written → Type 0
PrintsUnread refusal_style what path before after =
    (words : UnreadWords) × (words.subject ≡ what) × (words.path.now ≡ path) × Appends before.0 after.0 (unread_text refusal_style words)
    × Says (beside refusal_style (Some (unread_words words))) before.1 after.1

-- what a status says where a halt was printed in this style
abbrev pub AfterHalt : RefusalStyle → Halt → Written → Written → Status → Type 0
AfterHalt refusal_style (halt.Refused what why) before after s = (s ≡ status.Refused) × PrintsRefusal refusal_style (refusal what why) before after
AfterHalt style (halt.Archive what why name) before after s = (s ≡ status.Refused) × PrintsRefusal style (of_archive name.now (refusal what why)) before after
AfterHalt refusal_style (halt.Unread what path) before after s = (s ≡ status.Device) × PrintsUnread refusal_style what path.now before after

-- a manifest is refused for this reason because of the role of a record
abbrev pub is_role_of : Subject → Reason → Bool
is_role_of subject.Manifest reason = is_of_role reason
is_role_of subject.Waivers reason = false
is_role_of (subject.File index name) reason = false

-- the refusal of what is no table; none where something cannot be read
abbrev pub refusal_of_table : NoTable → Option Refusal
refusal_of_table (none.Halted halt) = refusal_of halt
refusal_of_table (none.Role why row) = Some (of_role row.role row.file why)

-- what is said where there is no table: `Is` of the refusal, or `Risen` where something cannot be read
abbrev pub HaltsTable : (Refusal → Type 0) → Type 0 → NoTable → Type 0
HaltsTable Is Risen (none.Halted halt) = Halts Is Risen halt
HaltsTable Is Risen (none.Role why row) = Is (of_role row.role row.file why)

-- what a status says where it was printed in this style why there is no table
abbrev pub AfterNoTable : RefusalStyle → NoTable → Written → Written → Status → Type 0
AfterNoTable refusal_style (none.Halted halt) before after s = AfterHalt refusal_style halt before after s
AfterNoTable style (none.Role why row) before after s = (s ≡ status.Refused) × PrintsRefusal style (of_role row.role row.file why) before after

-- the refusal of the table under a name
abbrev pub RefusesTable : {A : Type 0} → (List ℕ → Result (List A) Fault) → Relation → List ℕ → Subject → Refusal → Type 0
RefusesTable parse has name what why = RefusedTable parse (refusal what) has name why

-- what came of the table under a name: its text and its rows, or why there are none
abbrev pub OfTable : {A : Type 0} → (List ℕ → Result (List A) Fault) → Relation → List ℕ → Subject → Type 0 → Result (LoadedTable A) NoTable → Type 0
OfTable parse has name what Risen (Ok table) = IsTable parse has name table.text.items table.rows.items
OfTable parse has name what Risen (Err no_table) = HaltsTable (RefusesTable parse has name what) Risen no_table

-- what came of the files of these entries in this profile: they are loaded and `Holds` is true of them, or one of them is refused or cannot be read
abbrev pub OfFiles : {A : Type 0} → Relation → Profile → List Entry → Type 0 → (A → List FileView → Type 0) → Result A Halt → Type 0
OfFiles has profile entries Risen Holds (Ok it) = (files : List (List ℕ)) × HasFiles (within file_limit has) entries files
    × Holds it (sources profile entries files)
OfFiles has profile entries Risen Holds (Err halt) = Halts (RefusedFile has profile entries) Risen halt

-- what came of what was read of the files of these entries: it, or the refusal of the first of them that is refused
abbrev pub OfRead : {A : Type 0} → List Entry → Result A PackageFault → Result A Halt → Type 0
OfRead entries (Ok it) done = done ≡ Ok it
OfRead entries (Err stop.Memory) done = ⊥
OfRead entries (Err (stop.File index fault)) (Ok it) = ⊥
OfRead entries (Err (stop.File index fault)) (Err halt) = (all : List FileView)
    → map (λ entry. entry.name) entries ≡ map (λ source. source.name) all → IsFirstRefused all index fault → Halts (RefusedAmong all) ⊥ halt
