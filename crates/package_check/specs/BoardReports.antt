-- The report on a package: that on the board of its files. Its entries are the findings of the check.
use Rattle.std.specs.Prelude.{◌≡◌, ◌⊎◌, ℕ, ◌+◌, ◌-◌, List, [], length, map}
use Rattle.std.specs.List.{AllZip, filter}
use Rattle.grid_units.specs.Holes.{GridRules}
use Rattle.grid_units.specs.declared.fault.Fault.{Fault}
use Rattle.grid_units.specs.declared.profile.Profile.TheVariants.{Strict, Wide}
use Rattle.ring_rules.specs.declared.finding.Finding.{Finding}
use Rattle.ring_rules.specs.declared.finding.Finding.TheVariants.{Gap, Oblique, Ring}
use Rattle.layer_features.specs.Features.{pads_of, rows_of}
use Rattle.layer_features.specs.declared.feature.Feature.{Feature}
use Rattle.board.specs.Boards.{BoardView}
use Rattle.package_check.specs.Boards.{IsFlashedBoard}
use Rattle.package_check.specs.Package.{FileView, IsFirstRefused, IsReport}
use Rattle.package_check.specs.Reports.{ReportView}
use Rattle.package_check.specs.Soundness.{IsSound}
use Rattle.package_check.specs.WiderProfile.{in_wide, read_in}
use Rattle.board_report.specs.BoardReport.{IsBoardReport, is_gap, is_of_ring}
use Rattle.board.specs.declared.FileSum.{FileSum}
use Rattle.board_report.specs.Rows.{IsPlace}
use Rattle.report.specs.Causes.{AreMatched}
use Rattle.report.specs.declared.GapLack.{GapLack}
use Rattle.report.specs.declared.PlacedHole.{PlacedHole}
use Rattle.report.specs.declared.RingLack.{RingLack}
use Rattle.report.specs.declared.BoardReport.{BoardReport}

-- the rows of the flashes and contours of a layer belong together with its pads: as many rows are pads as there are pads
abbrev pub RowsAreMatched : Type 0
RowsAreMatched = (features : List Feature) → AreMatched (rows_of features) (pads_of features)

-- the report on a package: that on the board of its files, with their rows
pub record IsBoardReportOf (sources : List FileView) (required : GridRules) (output : BoardReport) : Type 0 where
  pub board : BoardView
  pub read : IsFlashedBoard sources board
  pub is : IsBoardReport required board output

-- an entry has the drill file and the number of the hole at a place in the list of all holes
abbrev pub MatchesHole : List FileSum → ℕ → PlacedHole → Type 0
MatchesHole files hole at = IsPlace files hole (at.place)

-- an entry is that of a finding of a ring: it has the finding's layer and hole
abbrev pub MatchesRing : List FileSum → Finding → RingLack → Type 0
MatchesRing files (Ring layer hole) output = (output.layer ≡ layer) × MatchesHole files hole output.at
MatchesRing files (Oblique layer hole) output = (output.layer ≡ layer) × MatchesHole files hole output.at
MatchesRing files (Gap first second) output = ⊥

-- an entry is that of a finding of a gap: it has the finding's two holes
abbrev pub MatchesGap : List FileSum → Finding → GapLack → Type 0
MatchesGap files (Gap first second) output = MatchesHole files first output.first × MatchesHole files second output.second
MatchesGap files _ output = ⊥

-- a report agrees with the check of its package: the check reports; its findings and the entries match one for one, in order, rings and gaps
-- each by themselves, so there are as many; and a package whose report has no entry is sound
pub record AgreesWithCheck (sources : List FileView) (required : GridRules) (output : BoardReport) : Type 0 where
  pub reported : (report : ReportView) × IsReport sources required report
  pub rings : (report : ReportView) → IsReport sources required report → AllZip (MatchesRing report.files) (filter is_of_ring report.findings) output.rings.items
  pub gaps : (report : ReportView) → IsReport sources required report → AllZip (MatchesGap report.files) (filter is_gap report.findings) output.gaps.items
  pub count : (report : ReportView) → IsReport sources required report → length report.findings ≡ length output.rings.items + length output.gaps.items
  pub sound : output.rings.items ≡ [] → output.gaps.items ≡ [] → IsSound sources required

-- the report on any package agrees with its check
abbrev pub ReportAgreesWithCheck : Type 0
ReportAgreesWithCheck = (sources : List FileView) (required : GridRules) (output : BoardReport) → IsBoardReportOf sources required output
    → AgreesWithCheck sources required output

-- how many findings a report has
abbrev pub finding_count : BoardReport → ℕ
finding_count report = length report.rings.items + length report.gaps.items

-- how many findings of the report on some files the wide profile does not have: those that it finds fewer in the same files, or 0 where it refuses one of them
abbrev pub FindsFewer : List FileView → BoardReport → ℕ → Type 0
FindsFewer sources report fewer =
    ((wide : ReportView) × IsReport (map (read_in Wide) sources) (in_wide report.rules) wide × (fewer ≡ finding_count report - length wide.findings))
    ⊎ ((fewer ≡ 0) × ((index : ℕ) × (fault : Fault) × IsFirstRefused (map (read_in Wide) sources) index fault))

-- the report on a board has so many findings fewer in the wide profile, whatever files they are that the strict profile reads as the board
abbrev pub HasFewer : BoardView → BoardReport → ℕ → Type 0
HasFewer board report fewer =
    (sources : List FileView) → IsFlashedBoard (map (read_in Strict) sources) board → IsBoardReport report.rules board report → FindsFewer sources report fewer
