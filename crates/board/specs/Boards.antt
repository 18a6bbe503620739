-- The board of a package: what all of its files say together.
use Rattle.std.specs.Prelude.{ℕ, ◌+◌, ◌≡◌, ◌++◌, List, [], ◌∷◌, length, map, take, drop}
use Rattle.std.specs.List.{enumerate_from, sum_by}
use Rattle.grid_units.specs.Holes.{GridRules}
use Rattle.pad_shapes.specs.declared.drawn.Drawn.{Drawn}
use Rattle.pad_shapes.specs.declared.row.FeatureRow.{FeatureRow}
use Rattle.pad_shapes.specs.WidePads.{wide_pad_covers}
use Rattle.pad_shapes.specs.declared.wide_pad.WidePad.{WidePad}
use Rattle.ring_rules.specs.Findings.{gap_findings, ring_findings}
use Rattle.ring_rules.specs.declared.finding.Drilled.{Drilled}
use Rattle.ring_rules.specs.declared.finding.Finding.{Finding}
use Rattle.board.specs.declared.FileSum.{FileSum}
use Rattle.board.specs.declared.FileSum.TheVariants as sum
use Rattle.board.specs.declared.Numbered.{Numbered}

-- the board of a package: the counts of each file, the pads and the index of each copper file, the holes of all drill files in order; and of each file what is kept
-- of rows, of shapes of macros and contours that the profile does not count, and of what is drawn
pub record BoardView : Type 0 where
  pub files : List FileSum
  pub layers : List (List WidePad)
  pub layer_indexes : List ℕ
  pub holes : List Drilled
  pub rows : List (List FeatureRow)
  pub macros : List (List WidePad)
  pub contours : List (List WidePad)
  pub drawn : List (List Drawn)

-- how many holes a file drills, slots among them; a copper file drills none
abbrev pub hole_count : FileSum → ℕ
hole_count (sum.Layer pads other contours) = 0
hole_count (sum.Drill plated span contradicted round slots) = round + slots
hole_count (sum.Mixed span round slots unplated) = round + slots

-- the number of holes in the files before one, by its index
abbrev pub holes_before : List FileSum → ℕ → ℕ
holes_before files file = sum_by hole_count (take file files)

-- the counts of the files add up to the number of these holes
abbrev pub CountsAddUp : List FileSum → List Drilled → Type 0
CountsAddUp files holes = sum_by hole_count files ≡ length holes

-- the holes of one file with its index, each with its number there, from 1
abbrev pub numbered_in : ℕ → List Drilled → List Numbered
numbered_in file holes = map (λ hole. record { file = file; number = hole.0; drilled = hole.1 }) (enumerate_from 1 holes)

-- the places of holes that are listed file by file, each file having as many as it counts; `file` is the index of the first of the files
unfoldable pub numbered_from : ℕ → List FileSum → List Drilled → List Numbered
numbered_from file [] holes = []
numbered_from file (one ∷ files) holes = numbered_in file (take (hole_count one) holes) ++ numbered_from (file + 1) files (drop (hole_count one) holes)

-- the holes of a board with their places: the index of the file, from 0, and the number in it, from 1
abbrev pub holes_with_places : BoardView → List Numbered
holes_with_places board = numbered_from 0 board.files board.holes

-- what the rules find on a board: first the rings that are lacking, then the gaps
abbrev pub board_findings : GridRules → BoardView → List Finding
board_findings rules board = ring_findings wide_pad_covers rules.profile rules.ring board.layers board.holes ++ gap_findings rules.gap board.holes
