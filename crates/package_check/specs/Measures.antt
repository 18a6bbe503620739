-- The measure of a package: that of the board of its files.
use Rattle.std.specs.Prelude.{◌≡◌, ◌↔◌, ℕ, List, [], Result, Ok, Err, ⊤}
use Rattle.grid_units.specs.Holes.{GridRules}
use Rattle.grid_units.specs.declared.fault.Fault.{Fault}
use Rattle.grid_units.specs.declared.profile.Profile.{Profile}
use Rattle.pad_shapes.specs.WidePads.{wide_pad_covers}
use Rattle.board.specs.Meets.{MeetsRings, MeetsGaps}
use Rattle.board.specs.declared.met.Met.{Met}
use Rattle.board.specs.Boards.{BoardView}
use Rattle.board_report.specs.Measures.{AllowsRules, IsMeasure}
use Rattle.package_check.specs.Boards.{IsBoard}
use Rattle.package_check.specs.Package.{IsFirstRefused, IsReport, FileView}
use Rattle.package_check.specs.Reports.{ReportView}
use Rattle.package_check.specs.declared.PackageFault.{PackageFault}
use Rattle.package_check.specs.declared.PackageFault.TheVariants as stop
use Rattle.report.specs.declared.Measure.{Measure}

-- the files of a package can be read, whatever the rules are, and in this profile its report has no findings under just the rules that are allowed
pub record PackagePasses (profile : Profile) (sources : List FileView) (ring gap : Met) : Type 0 where
  pub reported : (rules : GridRules) → (report : ReportView) × IsReport sources rules report
  pub passes : (rules : GridRules) (report : ReportView) → rules.profile ≡ profile → IsReport sources rules report → (report.findings ≡ []) ↔ AllowsRules ring gap rules

-- the measure of a package in a profile: that of the board of its files
pub record IsMeasureOf (profile : Profile) (sources : List FileView) (measure : Measure) : Type 0 where
  pub board : BoardView
  pub read : IsBoard sources board
  pub is : IsMeasure profile board measure

-- the answer is the measure of the package, or its first file that is refused; if memory runs out nothing is claimed
abbrev pub AnswersMeasure : Profile → List FileView → Result Measure PackageFault → Type 0
AnswersMeasure profile sources (Ok measure) = IsMeasureOf profile sources measure
AnswersMeasure profile sources (Err stop.Memory) = ⊤
AnswersMeasure profile sources (Err (stop.File index fault)) = IsFirstRefused sources index fault

-- a package has a measure just where a check reports on it, and is refused just as by a check, unless memory runs out
abbrev pub RefusesAlike : Result ReportView (ℕ × Fault) → Result Measure PackageFault → Type 0
RefusesAlike answer (Err stop.Memory) = ⊤
RefusesAlike (Ok report) (Ok measure) = ⊤
RefusesAlike (Err refusal) (Err (stop.File index fault)) = refusal ≡ (index, fault)
RefusesAlike _ _ = ⊥

-- in each profile a package whose files can all be read passes under just the rules that its board meets
abbrev pub MeasuredPasses : Type 0
MeasuredPasses = (profile : Profile) (sources : List FileView) (board : BoardView) (ring gap : Met) → IsBoard sources board
    → MeetsRings wide_pad_covers profile board.layers board.holes ring → MeetsGaps board.holes gap → PackagePasses profile sources ring gap
