-- What a loader has of the files of a proposed manifest, and what a status says of that manifest and of explanations.
use Rattle.std.specs.Prelude.{◌≡◌, ◌<◌, ◌≤◌, ◌+◌, ◌-◌, ◌++◌, ◌^◌, ◌⊎◌, ◌==◌, ◌&&◌, ℕ, Bool, true, false, not, List, [], ◌∷◌, length, map, Option, Some, None, ⊤}
use Rattle.std.specs.Borrow.{Bor}
use Rattle.std.specs.List.{count_by, list_all, list_any}
use Rattle.std.specs.Io.KnownBytes.{Appends}
use Rattle.command_line.specs.declared.commands.TheConstants.{VERSION_LINE}
use Rattle.grid_units.specs.declared.fault.Reason.TheVariants.{BadManifest, BadRole}
use Rattle.grid_units.specs.declared.profile.Profile.{Profile}
use Rattle.manifest.specs.Manifest.{is_control}
use Rattle.ringcheck_files.specs.KnownWords.{IsPageOf, known_word}
use Rattle.ringcheck_files.specs.PageWords.{ListsWords}
use Rattle.manifest.specs.Contents.{is_archive}
use Rattle.manifest.specs.Manifests.{IsManifestOf, reasons_text}
use Rattle.manifest.specs.ProposalList.{name_of, proposals}
use Rattle.manifest.specs.declared.model.FileContent.{FileContent}
use Rattle.manifest.specs.declared.model.FileContent.TheVariants as content
use Rattle.manifest.specs.declared.model.InputFile.{InputFile}
use Rattle.ringcheck_files.specs.declared.Status.{Status}
use Rattle.ringcheck_files.specs.declared.Status.TheVariants as status
use Rattle.ringcheck_files.specs.declared.proposed_manifest.LoadedFile.{LoadedFile}
use Rattle.ringcheck_files.specs.declared.proposed_manifest.LoadedFile.TheVariants as loaded
use Rattle.ringcheck_files.specs.Containers.{archive_sentence, folder_sentence}
use Rattle.ringcheck_files.specs.LoaderRelation.{Relation, file_limit, within}
use Rattle.ringcheck_files.specs.Sentences.{name_sentence, no_page_sentence}
use Rattle.ringcheck_files.specs.Words.{sentence_line, usage_line}

-- ---- files by their names

-- what is known of the bytes of a file: the bytes, or that they cannot be read, that a folder has its name, or that they are above the limit
pub data LoadedView : Type 0 where
  bytes : List ℕ → LoadedView
  unread : LoadedView
  folder : LoadedView
  long : LoadedView

-- what is known of a file, by its content
abbrev pub content_view : FileContent → LoadedView
content_view (content.Bytes text) = bytes text.now
content_view content.NotRead = unread
content_view content.Folder = folder
content_view content.TooLong = long

-- what is known of a file, by what was loaded
abbrev pub loaded_view : LoadedFile → LoadedView
loaded_view (loaded.Bytes text) = bytes text.items
loaded_view loaded.NotRead = unread
loaded_view loaded.Folder = folder
loaded_view loaded.TooLong = long

-- the loader has these bytes within the limit, or bytes above it; of a file that cannot be read, or is a folder, nothing is said
abbrev pub HasLoaded : Relation → List ℕ → LoadedView → Type 0
HasLoaded has name (bytes text) = within file_limit has name text
HasLoaded has name unread = ⊤
HasLoaded has name folder = ⊤
HasLoaded has name long = (text : List ℕ) × has name text × (file_limit < length text)

-- the loader has what is known of each of these names
abbrev pub HasAllLoaded : Relation → List (List ℕ × LoadedView) → Type 0
HasAllLoaded has [] = ⊤
HasAllLoaded has (p ∷ ps) = HasLoaded has p.0 p.1 × HasAllLoaded has ps

-- the name of a file, and what is known of its bytes
abbrev pub loaded_file : InputFile → List ℕ × LoadedView
loaded_file file = (name_of file, content_view file.content)

-- whether a file cannot be read, as a folder cannot
abbrev pub is_unread : LoadedView → Bool
is_unread (bytes text) = false
is_unread unread = true
is_unread folder = true
is_unread long = false

-- how many of the files cannot be read
abbrev pub count_unread : List (List ℕ × LoadedView) → ℕ
count_unread all = count_by (λ p. is_unread p.1) all

-- a count of failures rose by at least so many, or stands at its greatest value, 2^64 - 1
abbrev pub HasRisenBy : ℕ → ℕ → ℕ → Type 0
HasRisenBy many before after = (before + many ≤ after) ⊎ (2 ^ 64 - 1 ≤ after)

-- each name with what was loaded under it
abbrev pub loaded_files : List (Bor (List ℕ)) → List LoadedFile → List (List ℕ × LoadedView)
loaded_files [] all = []
loaded_files (name ∷ names) [] = []
loaded_files (name ∷ names) (one ∷ all) = (name.now, loaded_view one) ∷ loaded_files names all

-- ---- a manifest

-- whether a name may stand in a manifest: it is not empty, and has no control byte (docs/FORMATS.md, Judging)
abbrev pub is_entry_name : List ℕ → Bool
is_entry_name name = not (length name == 0) && not (list_any is_control name)

-- with `why` the table of what each file is in a profile and why, else a manifest of the files for it (docs/FORMATS.md, Proposals)
abbrev pub IsProposalText : Profile → Bool → List InputFile → List ℕ → Type 0
IsProposalText profile true files text = text ≡ reasons_text (proposals profile files)
IsProposalText profile false files text = IsManifestOf (proposals profile files) text

-- whether a file is a folder, as its loader says, or a zip archive by its bytes
abbrev pub is_container : LoadedView → Bool
is_container (bytes text) = is_archive text
is_container unread = false
is_container folder = true
is_container long = false

-- whether there are files, and each of them is a folder or a zip archive, so that there is nothing to propose
abbrev pub are_containers : List (List ℕ × LoadedView) → Bool
are_containers [] = false
are_containers (file ∷ files) = is_container file.1 && list_all (λ p. is_container p.1) files

-- the writer got just the manifest or the table of files with these names, as the loader has them, of which not all are folders or zip
-- archives; a load failed for each that cannot be read
pub record PrintsProposal (profile : Profile) (why : Bool) (has : Relation) (failed_before failed_after : ℕ) (names : List (List ℕ)) (before after : Option (List ℕ)) : Type 0 where
  pub files : List InputFile
  pub named : map name_of files ≡ names
  pub loaded : HasAllLoaded has (map loaded_file files)
  pub failed : HasRisenBy (count_unread (map loaded_file files)) failed_before failed_after
  pub proposes : are_containers (map loaded_file files) ≡ false
  pub text : List ℕ
  pub is : IsProposalText profile why files text
  pub written : Appends before after text

-- what is said of a file that is a zip archive or a folder
abbrev pub said_of : List ℕ × LoadedView → List ℕ
said_of (name, bytes text) = archive_sentence name
said_of (name, unread) = []
said_of (name, folder) = folder_sentence name
said_of (name, long) = []

-- what is said of some files that are folders or zip archives: that the first of them is one
abbrev pub first_said : List (List ℕ × LoadedView) → List ℕ
first_said [] = []
first_said (file ∷ rest) = said_of file

-- there are files of these names, and each is a folder, as its loader says, or a zip archive; the writer got just the line of words that
-- are refused, and what is said of the first
pub record PrintsContainers (has : Relation) (failed_before failed_after : ℕ) (names : List (List ℕ)) (before after : Option (List ℕ)) : Type 0 where
  pub all : List (List ℕ × LoadedView)
  pub named : map (λ p. p.0) all ≡ names
  pub loaded : HasAllLoaded has all
  pub failed : HasRisenBy (count_unread all) failed_before failed_after
  pub hold : are_containers all ≡ true
  pub written : Appends before after (usage_line BadManifest ++ sentence_line (first_said all))

-- what a status says of a manifest of files with these names, for a profile; `failed_before` and `failed_after` count the loader's failures
abbrev pub IsManifestStatus : Profile → Bool → Relation → ℕ → ℕ → List (List ℕ) → Option (List ℕ) → Option (List ℕ) → Status → Type 0
IsManifestStatus profile why has failed_before failed_after names before after status.Pass = (list_all is_entry_name names ≡ true) × PrintsProposal profile why has failed_before failed_after names before after
IsManifestStatus profile why has failed_before failed_after names before after status.Usage =
    ((list_all is_entry_name names ≡ false) × Appends before after (usage_line BadManifest ++ sentence_line name_sentence)) ⊎ PrintsContainers has failed_before failed_after names before after
IsManifestStatus profile why has failed_before failed_after names before after status.Device = ⊤
IsManifestStatus profile why has failed_before failed_after names before after _ = ⊥

-- ---- files that are at hand

-- what a status says of the manifest or the table of files that are at hand: it was written, or there are some and each is a folder or a zip archive
abbrev pub IsHeldStatus : Profile → Bool → List (List ℕ × LoadedView) → Option (List ℕ) → Option (List ℕ) → Status → Type 0
IsHeldStatus profile why all before after status.Pass = (are_containers all ≡ false) × ((files : List InputFile) × (map loaded_file files ≡ all) × (text : List ℕ) × IsProposalText profile why files text × Appends before after text)
IsHeldStatus profile why all before after status.Usage = (are_containers all ≡ true) × Appends before after (usage_line BadManifest ++ sentence_line (first_said all))
IsHeldStatus profile why all before after _ = ⊥

-- ---- explanations

-- the writer got just the page of a word, whatever its case; the page begins with that word and fits a screen (docs/FORMATS.md, Explanations)
pub record PrintsPage (word : List ℕ) (before after : Option (List ℕ)) : Type 0 where
  pub page : List ℕ
  pub is : IsPageOf (known_word word) page
  pub written : Appends before after page

-- what a status says of the page of a word, or, without a word, of the list of those that have one
abbrev pub IsExplainStatus : Option (List ℕ) → Option (List ℕ) → Option (List ℕ) → Status → Type 0
IsExplainStatus (Some word) before after status.Pass = PrintsPage word before after
IsExplainStatus None before after status.Pass = (list : List ℕ) × ListsWords list × Appends before after list
IsExplainStatus (Some word) before after status.Usage = (known_word word ≡ None) × Appends before after (usage_line BadRole ++ sentence_line (no_page_sentence word))
IsExplainStatus word before after status.Device = ⊤
IsExplainStatus word before after _ = ⊥

-- what a status says of the version: on Pass just its line was written, such as `ringcheck 0.1.0` (docs/FORMATS.md, The program)
abbrev pub IsVersionStatus : Option (List ℕ) → Option (List ℕ) → Status → Type 0
IsVersionStatus before after status.Pass = Appends before after VERSION_LINE.now
IsVersionStatus before after status.Device = ⊤
IsVersionStatus before after _ = ⊥
