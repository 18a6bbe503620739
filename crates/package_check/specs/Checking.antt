-- What a check of a package holds of the files that it has taken, where the rings of a layer are found as its file is read, and its pads are dropped.
use Rattle.std.specs.Prelude.{◌≡◌, ◌==◌, ◌||◌, ℕ, Bool, true, not, List, take, count_by, slice_get, None, Some, Ok}
use Rattle.std.specs.List.{filter, flat_map}
use Rattle.grid_units.specs.Holes.{GridRules}
use Rattle.ring_rules.specs.declared.finding.Drilled.{Drilled}
use Rattle.package_check.specs.CheckViews.{CheckView}
use Rattle.package_check.specs.Holding.{HoldsThose}
use Rattle.package_check.specs.Judging.{Judges}
use Rattle.package_check.specs.Package.{FileView, HaveContents, is_copper}
use Rattle.package_check.specs.SoundnessAsRead.{drilled_in}
use Rattle.package_check.specs.declared.contents.Content.{Content}
use Rattle.package_check.specs.declared.checking.Judged.{Judged}

-- the number of the layer of the copper file at an index, from 0: how many of the files before it are copper
abbrev pub layer_number : List FileView → ℕ → ℕ
layer_number sources i = count_by (λ source. is_copper source.role) (take i sources)

-- the drill files of a package
abbrev pub drill_files : List FileView → List FileView
drill_files sources = filter (λ source. not (is_copper source.role)) sources

-- these are the holes of all drill files of a package, file by file
abbrev pub AreHolesOf : List FileView → List Drilled → Type 0
AreHolesOf sources holes = (drills : List Content) × HaveContents (drill_files sources) drills × (holes ≡ flat_map drilled_in drills)

-- what is left of the file at an index of a package
abbrev pub IsJudgedOf : GridRules → List Drilled → List FileView → ℕ → FileView → Judged → Type 0
IsJudgedOf rules holes sources i source one = Judges rules holes (layer_number sources i) source (Ok one)

-- Of the files of a package a check has taken those at the indexes that `taken` is true of, all drill files among them. Of each that stands before the
-- first of them that is refused it holds what is left, its rings found at the holes of the drill files; and it holds that refusal.
pub record HasJudged (check : CheckView) (sources : List FileView) (rules : GridRules) (taken : ℕ → Bool) : Type 0 where
  pub same_rules : check.rules ≡ rules
  pub holds : HoldsThose (IsJudgedOf check.rules check.holes sources) check.slots check.stopped sources taken
  pub drilled : check.stopped ≡ None → AreHolesOf sources check.holes

-- a check has taken each file of a package
abbrev pub HasJudgedAll : CheckView → List FileView → GridRules → Type 0
HasJudgedAll check sources rules = HasJudged check sources rules (λ i. true)

-- between two states a check has taken the files of a package at the indexes that pass a test
abbrev pub JudgesThose : CheckView → CheckView → List FileView → (ℕ → Bool) → Type 0
JudgesThose before after sources test = (rules : GridRules) (taken : ℕ → Bool) → HasJudged before sources rules taken
    → HasJudged after sources rules (λ i. taken i || test i)

-- between two states a check has taken this copper file, of whatever package that has it at this index, where its layer has this number
abbrev pub TakesCopper : CheckView → CheckView → ℕ → ℕ → FileView → Type 0
TakesCopper before after index layer source =
    (sources : List FileView) → slice_get sources index ≡ Some source → layer ≡ layer_number sources index → JudgesThose before after sources (λ i. i == index)
