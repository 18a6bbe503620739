-- What a reader of a package holds of the files that it has taken so far.
use Rattle.std.specs.Prelude.{◌≡◌, ◌≢◌, ◌<◌, ◌≤◌, ◌==◌, ◌||◌, ◌∷◌, [], ℕ, Bool, true, false, not, List, length, get_or, slice_get, map, nat_lt, if◌then◌else◌, Option, None, Some, Result, Ok, Err, ⊤}
use Rattle.grid_units.specs.declared.fault.Fail.{Fail}
use Rattle.grid_units.specs.declared.fault.Fail.TheVariants as fails
use Rattle.grid_units.specs.declared.profile.Profile.{Profile}
use Rattle.gerber_commands.specs.declared.command.Command.{Command}
use Rattle.gerber_text.specs.Writing.{without_places}
use Rattle.layer_image.specs.Layers.{IsLayerIn, LayerImage}
use Rattle.layer_features.specs.Features.{features_of, rows_of, uncounted_contours, uncounted_macros, wide_features_of}
use Rattle.layer_features.specs.Kept.{keeps_drawn, keeps_rows}
use Rattle.layer_features.specs.declared.keep.Keep.{Keep}
use Rattle.manifest.specs.declared.Role.{Role}
use Rattle.package_check.specs.declared.PackageFault.{PackageFault}
use Rattle.package_check.specs.declared.PackageFault.TheVariants as stop
use Rattle.package_check.specs.declared.contents.Content.{Content}
use Rattle.package_check.specs.declared.package_reader.PackageReader.{PackageReader}
use Rattle.board.specs.declared.Shown.{Shown}
use Rattle.package_check.specs.declared.slots.Kept.{Kept}
use Rattle.board.specs.Boards.{BoardView}
use Rattle.package_check.specs.Boards.{board_of}
use Rattle.package_check.specs.FileTexts.{Draws}
use Rattle.package_check.specs.Package.{FileView, Reads, Setting, is_copper}

-- ---- slots

-- what is kept at an index of a list of slots; nothing past its end
abbrev pub kept_at : {X : Type 0} → List (Option X) → ℕ → Option X
kept_at slots i = get_or slots i None

-- what is kept is put into the slot at an index; the other slots stay, and a list below some length that has this index stays below it
pub record IsPutAt {X : Type 0} (index : ℕ) (one : X) (before after : List (Option X)) : Type 0 where
  pub here : kept_at after index ≡ Some one
  pub others : (i : ℕ) → i ≢ index → kept_at after i ≡ kept_at before i
  pub size : (n : ℕ) → length before ≤ n → index < n → length after ≤ n

-- the content in a slot, as a list of one; none in an empty slot
abbrev pub contents_in : Option Kept → List Content
contents_in None = []
contents_in (Some one) = one.content ∷ []

-- what a slot has to be shown, as a list of one; nothing in an empty slot
abbrev pub shown_in : Option Kept → List Shown
shown_in None = []
shown_in (Some one) = one.shown ∷ []

-- the board of files with these contents, of which this is kept to be shown
abbrev pub shown_board : List Content → List Shown → BoardView
shown_board contents shown =
    board_of contents (map (λ one. one.rows.items) shown) (map (λ one. one.macros.items) shown) (map (λ one. one.contours.items) shown)
    (map (λ one. one.drawn.items) shown)

-- what is kept to be shown of the layer of these commands: its rows, and the pads that the profile does not count
pub record ShowsRows (profile : Profile) (commands : List Command) (shown : Shown) : Type 0 where
  pub rows : shown.rows.items ≡ rows_of (features_of profile commands)
  pub macros : shown.macros.items ≡ uncounted_macros profile (wide_features_of commands)
  pub contours : shown.contours.items ≡ uncounted_contours profile (wide_features_of commands)

-- in the profile the bytes are the text of a layer, and this is kept of it to be shown
abbrev pub HasShown : Profile → List ℕ → Shown → Type 0
HasShown profile bytes shown = (layer : LayerImage) × IsLayerIn profile bytes layer × ShowsRows profile (without_places layer.commands) shown

-- what is kept of a file: its content; of a copper file its rows where they are kept, and what its commands draw where these are kept
pub record IsKeptOf (keep : Keep) (source : FileView) (one : Kept) : Type 0 where
  pub content : Reads source (Ok one.content)
  pub rows : keeps_rows keep ≡ true → is_copper source.role ≡ true → HasShown source.setting.profile source.bytes one.shown
  pub drawn : keeps_drawn keep ≡ true → is_copper source.role ≡ true → Draws source.setting.profile source.bytes one.shown.drawn.items

-- ---- where a reader stopped

-- whether the file at an index stands before the first that is refused so far; none does where memory ran out
abbrev pub is_wanted : Option PackageFault → ℕ → Bool
is_wanted None i = true
is_wanted (Some stop.Memory) i = false
is_wanted (Some (stop.File index fault)) i = nat_lt i index

-- a reader stopped at one of the files that it has taken, which has this fault; or it did not stop
abbrev pub StoppedAmong : List FileView → (ℕ → Bool) → Option PackageFault → Type 0
StoppedAmong sources taken None = ⊤
StoppedAmong sources taken (Some stop.Memory) = ⊥
StoppedAmong sources taken (Some (stop.File index fault)) = (source : FileView) × (slice_get sources index ≡ Some source) × (taken index ≡ true) × Reads source (Err fault)

-- where a reader stops after the file at an index was read: there, if it is refused
abbrev pub next_stop : Option PackageFault → ℕ → Result (Unit {0}) Fail → Option PackageFault
next_stop stopped index (Ok _) = stopped
next_stop stopped index (Err fails.Memory) = Some stop.Memory
next_stop stopped index (Err (fails.Refused fault)) = Some (stop.File index fault)

-- ---- files that were taken

-- Of the files of a package those at the indexes that `taken` is true of were taken, in any order. Of each that stands before the first of them that is
-- refused something is in its slot; the slots of files that were not taken are empty.
pub record HoldsThose {X : Type 0} (Is : ℕ → FileView → X → Type 0) (slots : List (Option X)) (stopping : Option PackageFault) (sources : List FileView) (taken : ℕ → Bool) : Type 0 where
  pub inside : length slots ≤ length sources
  pub stopped : StoppedAmong sources taken stopping
  pub kept : (i : ℕ) (source : FileView) → taken i ≡ true → slice_get sources i ≡ Some source → is_wanted stopping i ≡ true → (one : X) × (kept_at slots i ≡ Some one) × Is i source one
  pub empty : (i : ℕ) → taken i ≡ false → kept_at slots i ≡ None

-- the file at an index is read, and what is kept of it is put into its slot; or it is refused, and the slots stay
abbrev pub ReadsInto : {X : Type 0} → (X → Type 0) → ℕ → FileView → List (Option X) → List (Option X) → Result (Unit {0}) Fail → Type 0
ReadsInto {X} Is index source before after (Ok _) = (one : X) × Is one × IsPutAt index one before after
ReadsInto Is index source before after (Err fails.Memory) = Unit {0}
ReadsInto Is index source before after (Err (fails.Refused fault)) = Reads source (Err fault) × (after ≡ before)

-- ---- readers

-- what the reader reads its files in, as it was given it at the start
abbrev pub setting_of : PackageReader → Setting
setting_of reader = record { layers = reader.layers; profile = reader.profile }

-- the reader ran out of memory
abbrev pub IsOutOfMemory : PackageReader → Type 0
IsOutOfMemory reader = reader.stopped ≡ Some stop.Memory

-- Of the files of a package the reader has taken those at the indexes that `taken` is true of, in any order. It keeps each of them that stands before
-- the first of them that is refused, and that refusal.
pub record HasTaken (reader : PackageReader) (keep : Keep) (sources : List FileView) (taken : ℕ → Bool) : Type 0 where
  pub keeps : reader.keep ≡ keep
  pub holds : HoldsThose (λ i. IsKeptOf keep) reader.slots.items reader.stopped sources taken

-- the reader has taken each file of a package
abbrev pub HasTakenAll : PackageReader → Keep → List FileView → Type 0
HasTakenAll reader keep sources = HasTaken reader keep sources (λ i. true)

-- between two states a reader has taken the files of a package at the indexes that pass a test
abbrev pub TakesThose : PackageReader → PackageReader → List FileView → (ℕ → Bool) → Type 0
TakesThose before after sources test = (keep : Keep) (taken : ℕ → Bool) → HasTaken before keep sources taken
    → HasTaken after keep sources (λ i. taken i || test i)

-- between two states a reader has taken this file, of whatever package that has it at this index
abbrev pub TakesFile : PackageReader → PackageReader → ℕ → FileView → Type 0
TakesFile before after index source = (sources : List FileView) → slice_get sources index ≡ Some source → TakesThose before after sources (λ i. i == index)

-- the file at an index is read, and it is kept in its slot; or it is refused, and the slots stay
abbrev pub ReadsAt : Keep → ℕ → FileView → List (Option Kept) → List (Option Kept) → Result (Unit {0}) Fail → Type 0
ReadsAt keep index source before after read = ReadsInto (IsKeptOf keep source) index source before after read

-- ---- kinds of files

-- whether a role is that of a copper file, or of a drill file, as `copper` says
abbrev pub is_kind : Bool → Role → Bool
is_kind copper role = if copper then is_copper role else not (is_copper role)

-- whether a file is there, and is of this kind
abbrev pub is_kind_of : Bool → Option FileView → Bool
is_kind_of copper None = false
is_kind_of copper (Some source) = is_kind copper source.role

-- whether the file at an index is of this kind
abbrev pub is_kind_at : Bool → List FileView → ℕ → Bool
is_kind_at copper sources i = is_kind_of copper (slice_get sources i)
