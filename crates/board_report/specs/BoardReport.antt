-- The report on a package: each finding of its check with its place, its cause and its figures. Lengths are whole picometres.
use Rattle.std.specs.Prelude.{◌≡◌, ℕ, pos, ◌-◌, ◌-ℤ◌, Bool, true, false, not, List, [], get_or, map, count_by, Option, Some, None, if◌then◌else◌}
use Rattle.std.specs.List.{AllZip, enumerate_from, filter, filter_map}
use Rattle.grid_units.specs.Holes.{GridRules}
use Rattle.pad_shapes.specs.declared.wide_pad.WidePad.{WidePad}
use Rattle.pad_shapes.specs.declared.row.FeatureRow.{FeatureRow}
use Rattle.ring_rules.specs.Places.{hole_at}
use Rattle.ring_rules.specs.declared.finding.Drilled.{Drilled}
use Rattle.ring_rules.specs.declared.finding.Finding.{Finding}
use Rattle.ring_rules.specs.declared.finding.Finding.TheVariants.{Gap, Oblique, Ring}
use Rattle.board.specs.Gaps.{IsGap}
use Rattle.board.specs.Meets.{needs_ring}
use Rattle.board.specs.Boards.{BoardView, board_findings}
use Rattle.board.specs.declared.FileSum.{FileSum}
use Rattle.board.specs.declared.FileSum.TheVariants as sum
use Rattle.board_report.specs.Measures.{IsMeasure}
use Rattle.board_report.specs.Rows.{IsPlace}
use Rattle.report.specs.declared.Measure.{Measure}
use Rattle.report.specs.Causes.{IsCause, UncountedPads}
use Rattle.report.specs.declared.GapLack.{GapLack}
use Rattle.report.specs.declared.PlacedHole.{PlacedHole}
use Rattle.report.specs.declared.LayerHead.{LayerHead}
use Rattle.report.specs.declared.RingCause.{RingCause}
use Rattle.report.specs.declared.RingLack.{RingLack}
use Rattle.report.specs.declared.RoleConflict.{RoleConflict}
use Rattle.report.specs.declared.BoardReport.{BoardReport}

-- whether a finding is that of a gap
abbrev pub is_gap : Finding → Bool
is_gap (Ring layer hole) = false
is_gap (Oblique layer hole) = false
is_gap (Gap first second) = true

-- a finding of a ring, not of a gap
abbrev pub is_of_ring : Finding → Bool
is_of_ring finding = not (is_gap finding)

-- the rows of a layer, by its place among the copper files, from 0
abbrev pub layer_rows : BoardView → ℕ → List FeatureRow
layer_rows board layer = get_or board.rows (get_or board.layer_indexes layer 0) []

-- the pads of a layer
abbrev pub layer_pads : BoardView → ℕ → List WidePad
layer_pads board layer = get_or board.layers layer []

-- the pads of a layer that its profile does not count
abbrev pub layer_uncounted : BoardView → ℕ → UncountedPads
layer_uncounted board layer = record {
  macros = get_or board.macros (get_or board.layer_indexes layer 0) [];
  contours = get_or board.contours (get_or board.layer_indexes layer 0) [];
}

-- a hole of a board, by its place in the list of all holes: the index of its drill file, its number there from 1, and the hole itself
pub record IsPlacedHole (board : BoardView) (place : ℕ) (at : PlacedHole) : Type 0 where
  pub stands : IsPlace board.files place (at.place)
  pub hole : at.hole ≡ hole_at board.holes place

-- why the hole at a place lacks its ring on a layer
abbrev pub IsLayerCause : GridRules → BoardView → ℕ → ℕ → RingCause → Type 0
IsLayerCause required board layer hole why =
    IsCause required.profile (layer_rows board layer) (layer_pads board layer) (layer_uncounted board layer) required.ring (hole_at board.holes hole) why

-- the entry of a hole that lacks its ring on a layer: the layer, the hole's place in the package, and the cause
pub record IsRingEntryAt (board : BoardView) (required : GridRules) (layer hole : ℕ) (output : RingLack) : Type 0 where
  pub layer_is : output.layer ≡ layer
  pub at : IsPlacedHole board hole output.at
  pub cause : IsLayerCause required board layer hole output.cause

-- the entry of a finding of a ring
abbrev pub IsRingEntry : BoardView → GridRules → Finding → RingLack → Type 0
IsRingEntry board required (Ring layer hole) output = IsRingEntryAt board required layer hole output
IsRingEntry board required (Oblique layer hole) output = IsRingEntryAt board required layer hole output
IsRingEntry board required (Gap first second) output = ⊥

-- the entry of two holes that lack their gap: their places, the gap between them, and the required gap less this one
pub record IsGapEntryOf (board : BoardView) (required first second : ℕ) (output : GapLack) : Type 0 where
  pub first_at : IsPlacedHole board first output.first
  pub second_at : IsPlacedHole board second output.second
  pub gap : IsGap (hole_at board.holes first) (hole_at board.holes second) output.gap
  pub lack : output.lack ≡ pos required -ℤ output.gap

-- the entry of a finding of a gap
abbrev pub IsGapEntry : BoardView → ℕ → Finding → GapLack → Type 0
IsGapEntry board required (Gap first second) output = IsGapEntryOf board required first second output
IsGapEntry board required _ output = ⊥

-- the head of a layer: the index of its file, and the number of holes that need a ring there
abbrev pub head_of : List Drilled → ℕ × ℕ → LayerHead
head_of holes (layer, file) = record { file = file; needed = count_by (needs_ring layer) holes }

-- the conflict of a file with its index, if it is a drill file whose own comments contradict its role
abbrev pub conflict_in : ℕ × FileSum → Option RoleConflict
conflict_in (file, sum.Layer pads other contours) = None
conflict_in (file, sum.Drill plated span contradicted round slots) = if contradicted then Some (record { drill = file; plated = plated }) else None
conflict_in (file, sum.Mixed span round slots unplated) = None

-- the report on a board under rules: an entry for each finding of its check, in order, the drill files whose own comments
-- contradict their role, in order, and the rules that the board meets
pub record IsBoardReport (required : GridRules) (board : BoardView) (output : BoardReport) : Type 0 where
  pub rules : output.rules ≡ required
  pub layers : output.layers.items ≡ map (head_of board.holes) (enumerate_from 0 board.layer_indexes)
  pub rings : AllZip (IsRingEntry board required) (filter is_of_ring (board_findings required board)) output.rings.items
  pub gaps : AllZip (IsGapEntry board required.gap) (filter is_gap (board_findings required board)) output.gaps.items
  pub measure : Measure
  pub measured : IsMeasure required.profile board measure
  pub scales : output.scales.items ≡ measure.scales.items
  pub conflicts : output.conflicts.items ≡ filter_map conflict_in (enumerate_from 0 board.files)
  pub meets : output.meets ≡ measure.meets
