-- The entries so far, and one more finding.
use Rattle.std.specs.Prelude.{◌≡◌, ℕ, Bool, true, false, List, [], ◌∷◌, ◌++◌, Option, length, map}
use Rattle.std.specs.Global.{Vec}
use Rattle.ring_rules.specs.declared.finding.Finding.{Finding}
use Rattle.board.specs.declared.best.BestPad.{BestPad}
use Rattle.board.specs.Boards.{BoardView}
use Rattle.board_report.specs.Measures.{AreLayerBests}
use Rattle.board_report.specs.Rows.{AreFilesWithHoles}
use Rattle.report.specs.Causes.{HoldsRowsAndBests}
use Rattle.report.specs.declared.layer.CauseFinder.{CauseFinder}
use Rattle.board_report.specs.BoardReport.{layer_pads, layer_rows, layer_uncounted}
use Rattle.board_report.specs.declared.rings.CurrentLayer.{CurrentLayer}
use Rattle.board_report.specs.declared.rings.BoardData.{BoardData}

-- the data kept of a layer belong to its rows and pads, to those that do not count, and to the holes of the board
abbrev pub HoldsLayer : BoardView → ℕ → CauseFinder → Type 0
HoldsLayer board layer causes = HoldsRowsAndBests (layer_rows board layer) (layer_pads board layer) (layer_uncounted board layer) board.holes causes

-- the data at hand are those of their layer
abbrev pub IsCurrentLayer : BoardView → CurrentLayer → Type 0
IsCurrentLayer board current = HoldsLayer board current.layer current.causes

-- the best pads of each layer of a board, for each of its holes
abbrev pub AreBoardBests : BoardView → List (Vec (Option BestPad)) → Type 0
AreBoardBests board bests = AreLayerBests board (length board.layers) (map (λ its. its.items) bests)

-- the data made once for a board: the best pads of its layers for each hole, and its drill files that have holes; its rules are any
pub record IsBoardData (board : BoardView) (board_data : BoardData) : Type 0 where
  pub bests : AreBoardBests board board_data.bests.now
  pub files : AreFilesWithHoles board board_data.files.now

-- if the test is true, one more entry, that of the finding, is at the end; else the entries stay as they are
abbrev pub AddsEntry : {T : Type 0} → Bool → (Finding → T → Type 0) → Finding → List T → List T → Type 0
AddsEntry {T} true Tells finding old new = (output : T) × Tells finding output × (new ≡ old ++ output ∷ [])
AddsEntry {T} false Tells finding old new = new ≡ old
