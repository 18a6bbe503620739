-- The lines of a measure for rings and for the least gap. Lengths are whole pm. The places of holes in the list of all holes count from 0.
use Rattle.std.specs.Prelude.{◌≡◌, ◌⊎◌, ◌&&◌, ◌==◌, ℕ, pos, ◌+◌, ◌-◌, ◌*◌, ◌<◌, Bool, Option, Some, None, List, [], length, get_or, ⊤, true, false}
use Rattle.std.specs.List.{All, AllPairs, Contains, filter, range_with_len, slice_range}
use Rattle.pad_shapes.specs.WidePads.{wide_pad_covers}
use Rattle.ring_rules.specs.Places.{hole_at, default_hole}
use Rattle.board.specs.BestPads.{AreBestPads}
use Rattle.board.specs.Meets.{needs_ring}
use Rattle.board.specs.NearestHoles.{IsNearest, IsPair}
use Rattle.board.specs.Rows.{IsRingRow}
use Rattle.board.specs.declared.best.BestPad.{BestPad}
use Rattle.board.specs.declared.nearest.Nearest.{Nearest}
use Rattle.board.specs.declared.row.RingRow.{RingRow}
use Rattle.report.specs.declared.GapLine.{GapLine}
use Rattle.report.specs.declared.HolePlace.{HolePlace}
use Rattle.report.specs.declared.RingLine.{RingLine}
use Rattle.board.specs.Boards.{BoardView, CountsAddUp, holes_before}
use Rattle.board.specs.declared.FileSum.{FileSum}
use Rattle.board_report.specs.declared.places.FileHoles.{FileHoles}
use Rattle.grid_units.specs.declared.profile.Profile.{Profile}
use Rattle.pad_shapes.specs.declared.wide_pad.WidePad.{WidePad}
use Rattle.ring_rules.specs.declared.finding.Drilled.{Drilled}
use Rattle.report.specs.declared.UnitMistake.{UnitMistake}
use Rattle.report.specs.UnitMistakes.{IsUnitMistake}
use Rattle.board.specs.declared.row.RowLeast as row
use Rattle.report.specs.declared.LeastRing as line
use Rattle.board.specs.declared.FileSum.TheVariants as sum

-- the hole at a place in the list of all holes has this number, from 1, in this drill file
pub record IsPlace (files : List FileSum) (hole : ℕ) (place : HolePlace) : Type 0 where
  pub at : holes_before files place.drill + place.number ≡ hole + 1
  pub from_one : 0 < place.number
  pub inside : hole < holes_before files (place.drill + 1)

-- the holes of a drill file that has some: their places from `start` up to `end`, not included
pub record IsFileHoles (files : List FileSum) (file : FileHoles) : Type 0 where
  pub starts : file.start ≡ holes_before files file.drill
  pub ends : file.end ≡ holes_before files (file.drill + 1)
  pub some : file.start < file.end

-- among the first `count` files all that have holes, in order
pub record AreFileHoles (files : List FileSum) (count : ℕ) (with_holes : List FileHoles) : Type 0 where
  pub each : All (λ file. (file.drill < count) × IsFileHoles files file) with_holes
  pub sorted : AllPairs (λ a b. a.drill < b.drill) with_holes
  pub all : (file : FileHoles) → file.drill < count → IsFileHoles files file → Contains with_holes file

-- the drill files of a board that have holes; together they have all its holes
pub record AreFilesWithHoles (board : BoardView) (with_holes : List FileHoles) : Type 0 where
  pub are : AreFileHoles board.files (length board.files) with_holes
  pub counted : CountsAddUp board.files board.holes

-- a row: the holes of one drill file and one radius that need a ring on one layer
pub record RowKey : Type 0 where
  pub layer : ℕ
  pub drill : ℕ
  pub radius : ℕ

-- the places of a file's holes, in order
abbrev pub places_in : List FileSum → ℕ → List ℕ
places_in files file = range_with_len (holes_before files file) (holes_before files (file + 1) - holes_before files file)

-- a hole needs a ring on the layer of a row, and has the row's radius
abbrev pub is_in_row : BoardView → RowKey → ℕ → Bool
is_in_row board key hole = needs_ring key.layer (get_or board.holes hole default_hole) && ((hole_at board.holes hole).radius == key.radius)

-- the places of the holes of a row, in order
abbrev pub places_of : BoardView → RowKey → List ℕ
places_of board key = filter (is_in_row board key) (places_in board.files key.drill)

-- the least ring of a row, with the number of the first hole that has it; none where each hole of the row is bare
abbrev pub IsLeastWithNumber : List FileSum → ℕ → Option row.RowLeast → Option line.LeastRing → Type 0
IsLeastWithNumber files drill None None = ⊤
IsLeastWithNumber files drill None (Some shown) = ⊥
IsLeastWithNumber files drill (Some held) None = ⊥
IsLeastWithNumber files drill (Some held) (Some shown) = (shown.ring ≡ held.ring) × IsPlace files held.hole (record { drill = drill; number = shown.hole })

-- the line of a row in a profile, by the best pads of its layer: `ring layer=1 drill=4 diameter=0.300000000 holes=81 bare=0 least=0.099394596 hole=68`
pub record IsRowLine (profile : Profile) (board : BoardView) (key : RowKey) (line : RingLine) : Type 0 where
  pub bests : List (Option BestPad)
  pub best : AreBestPads wide_pad_covers (get_or board.layers key.layer []) board.holes bests
  pub row : RingRow
  pub is : IsRingRow profile bests board.holes (places_of board key) row
  pub layer : line.layer ≡ get_or board.layer_indexes key.layer 0
  pub drill : line.drill ≡ key.drill
  pub diameter : line.diameter ≡ pos (2 * key.radius)
  pub holes : line.holes ≡ row.holes
  pub bare : line.bare ≡ row.bare
  pub least : IsLeastWithNumber board.files key.drill row.least line.least

-- the order of rows: by layer, then by drill file, then by radius
abbrev pub IsBefore : RowKey → RowKey → Type 0
IsBefore a b = (a.layer < b.layer) ⊎ ((a.layer ≡ b.layer) × ((a.drill < b.drill) ⊎ ((a.drill ≡ b.drill) × (a.radius < b.radius))))

-- one line for each of some rows that has a hole, in the order of rows
pub record AreRowLines (profile : Profile) (board : BoardView) (among : RowKey → Type 0) (lines : List RingLine) : Type 0 where
  pub keys : List RowKey
  pub size : length keys ≡ length lines
  pub line : (i : ℕ) (k : RowKey) (d : RingLine) → i < length keys → IsRowLine profile board (get_or keys i k) (get_or lines i d)
  pub there : (i : ℕ) (k : RowKey) → i < length keys → among (get_or keys i k) × (0 < length (places_of board (get_or keys i k)))
  pub sorted : AllPairs IsBefore keys
  pub all : (key : RowKey) → among key → 0 < length (places_of board key) → Contains keys key

-- the lines of a board's rings: those of all rows on its layers
abbrev pub AreRingLines : Profile → BoardView → List RingLine → Type 0
AreRingLines profile board lines = AreRowLines profile board (λ key. key.layer < length board.layers) lines

-- the line of the least gap, of the first two holes that have it: `gap least=0.300000000 drill=3 hole=1 drill=4 hole=47`
pub record IsLeastGap (board : BoardView) (line : GapLine) : Type 0 where
  pub pair : Nearest
  pub nearest : IsNearest board.holes (IsPair board.holes) pair
  pub gap : line.gap ≡ pair.gap
  pub first : IsPlace board.files pair.first line.first
  pub second : IsPlace board.files pair.second line.second

-- the line of the least gap; none where there are fewer than two holes
abbrev pub IsGapLine : BoardView → Option GapLine → Type 0
IsGapLine board None = length board.holes < 2
IsGapLine board (Some line) = IsLeastGap board line

-- a drill file whose holes are plated; the holes of a mixed file are not tried
abbrev pub is_plated : FileSum → Bool
is_plated (sum.Layer pads other contours) = false
is_plated (sum.Drill plated span contradicted round slots) = plated
is_plated (sum.Mixed span round slots unplated) = false

-- the holes of a file, in order
abbrev pub holes_in : BoardView → ℕ → List Drilled
holes_in board file = slice_range board.holes (holes_before board.files file) (holes_before board.files (file + 1))

-- the pads of the first layer, none where there is no layer
abbrev pub first_pads : BoardView → List WidePad
first_pads board = get_or board.layers 0 []

-- the line of a plated drill file whose coordinates seem to be off, on a board with a layer: `scale drill=2 bare=3 factor=25.4 then=0`
pub record IsUnitMistakeOf (board : BoardView) (line : UnitMistake) : Type 0 where
  pub layer : 0 < length board.layers
  pub inside : line.drill < length board.files
  pub plated : (d : FileSum) → is_plated (get_or board.files line.drill d) ≡ true
  pub scale : IsUnitMistake (first_pads board) (holes_in board line.drill) line

-- all such lines of the first `count` files, one a file at most, in the order of files
pub record AreUnitMistakes (board : BoardView) (count : ℕ) (lines : List UnitMistake) : Type 0 where
  pub each : All (λ line. (line.drill < count) × IsUnitMistakeOf board line) lines
  pub sorted : AllPairs (λ a b. a.drill < b.drill) lines
  pub all : (line : UnitMistake) → line.drill < count → IsUnitMistakeOf board line → Contains lines line
