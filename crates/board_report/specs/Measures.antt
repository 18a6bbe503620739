-- The measure of a board: its least rings and gap, and the rules that it meets. Lengths are whole picometres.
use Rattle.std.specs.Prelude.{◌≡◌, ◌↔◌, ℕ, ◌<◌, Option, List, [], length, get_or}
use Rattle.grid_units.specs.Holes.{GridRules}
use Rattle.grid_units.specs.declared.profile.Profile.{Profile}
use Rattle.pad_shapes.specs.WidePads.{wide_pad_covers}
use Rattle.board.specs.BestPads.{AreBestPads}
use Rattle.board.specs.Meets.{MeetsRings, MeetsRingsInPads, MeetsGaps, allows}
use Rattle.board.specs.declared.best.BestPad.{BestPad}
use Rattle.board.specs.declared.met.Met.{Met}
use Rattle.board.specs.Boards.{BoardView, board_findings}
use Rattle.board_report.specs.Rows.{AreRingLines, IsGapLine, AreUnitMistakes}
use Rattle.report.specs.declared.Measure.{Measure}

-- the ring and the gap of the rules are both allowed
abbrev pub AllowsRules : Met → Met → GridRules → Type 0
AllowsRules ring gap rules = allows ring rules.ring × allows gap rules.gap

-- a check of the board in this profile has no findings under just the rules that are allowed
abbrev pub BoardPasses : Profile → BoardView → Met → Met → Type 0
BoardPasses profile board ring gap = (rules : GridRules) → rules.profile ≡ profile → (board_findings rules board ≡ []) ↔ AllowsRules ring gap rules

-- the measure of a board in a profile: the lines of its rings, its scales and its least gap, and the greatest rules that it meets
pub record IsMeasure (profile : Profile) (board : BoardView) (measure : Measure) : Type 0 where
  pub lines : AreRingLines profile board measure.rings.items
  pub scales : AreUnitMistakes board (length board.files) measure.scales.items
  pub gap : IsGapLine board measure.gap
  pub rings : MeetsRings wide_pad_covers profile board.layers board.holes measure.meets.ring
  pub held : MeetsRingsInPads wide_pad_covers profile board.layers board.holes measure.meets.in_pads
  pub gaps : MeetsGaps board.holes measure.meets.gap

-- the best pad of each hole of a board, on each of its first `count` layers
pub record AreLayerBests (board : BoardView) (count : ℕ) (bests : List (List (Option BestPad))) : Type 0 where
  pub size : length bests ≡ count
  pub each : (layer : ℕ) → layer < count → AreBestPads wide_pad_covers (get_or board.layers layer []) board.holes (get_or bests layer [])
