-- The holes of a drill file on a layer, in a table by radius, and the lines made from it.
use Rattle.std.specs.Prelude.{◌≡◌, ℕ, ◌+◌, ◌≤◌, ◌<◌, Bool, true, false, Option, Some, None, is_some, List, [], ◌∷◌, length, get_or, if◌then◌else◌, ⊤}
use Rattle.std.specs.Global.{Vec}
use Rattle.std.specs.Option.{option_map_or}
use Rattle.std.specs.Ordering.{nat_cmp}
use Rattle.std.specs.BTreeMap.{BTreeMap, get}
use Rattle.board.specs.declared.row.RowLeast.{RowLeast}
use Rattle.board.specs.declared.row.RingRow.{RingRow}
use Rattle.report.specs.declared.LeastRing as shown
use Rattle.report.specs.declared.UnitMistake.{UnitMistake}
use Rattle.report.specs.declared.mistakes.FileRange.{FileRange}
use Rattle.board.specs.Boards.{BoardView, holes_before}
use Rattle.board.specs.declared.FileSum.{FileSum}
use Rattle.board_report.specs.Rows.{RowKey, places_of, IsUnitMistakeOf, is_plated}
use Rattle.board_report.specs.declared.rows.LayerFileHoles.{LayerFileHoles}

-- the row of a radius, on the layer and in the drill file of a stretch
abbrev pub row_of : LayerFileHoles → ℕ → RowKey
row_of file_holes radius = record { layer = file_holes.layer; drill = file_holes.drill; radius = radius }

-- a row is on the layer and in the drill file of a stretch
abbrev pub IsRowOf : LayerFileHoles → RowKey → Type 0
IsRowOf file_holes key = (key.layer ≡ file_holes.layer) × (key.drill ≡ file_holes.drill)

-- a list has an element
abbrev pub is_not_empty : List ℕ → Bool
is_not_empty [] = false
is_not_empty (place ∷ places) = true

-- the places that a table holds for a radius; none where it lacks the radius
abbrev pub items_at : BTreeMap ℕ (Vec ℕ) → ℕ → List ℕ
items_at table radius = option_map_or (λ places. places.items) (get nat_cmp table radius) []

-- a table has an entry for a radius
abbrev pub has_radius : BTreeMap ℕ (Vec ℕ) → ℕ → Bool
has_radius table radius = is_some (get nat_cmp table radius)

-- for each radius a table holds the places of its row, and it has no entry without a place
pub record IsTableOf (board : BoardView) (file_holes : LayerFileHoles) (table : BTreeMap ℕ (Vec ℕ)) : Type 0 where
  pub items : (radius : ℕ) → items_at table radius ≡ places_of board (row_of file_holes radius)
  pub there : (radius : ℕ) → has_radius table radius ≡ is_not_empty (places_of board (row_of file_holes radius))

-- a stretch spans just the holes of its file
pub record IsLayerFileHoles (board : BoardView) (file_holes : LayerFileHoles) : Type 0 where
  pub ordered : file_holes.start ≤ file_holes.end
  pub inside : file_holes.end ≤ length board.holes
  pub starts : file_holes.start ≡ holes_before board.files file_holes.drill
  pub ends : file_holes.end ≡ holes_before board.files (file_holes.drill + 1)

-- the hole of a row's least ring comes no earlier than a file's first hole, and its number fits 64 bits
abbrev pub FitsFile : RingRow → ℕ → Type 0
FitsFile row start = (least : RowLeast) → row.least ≡ Some least → (start ≤ least.hole) × (least.hole < 18446744073709551615)

-- a least ring, with the number of its hole in the file whose holes begin at `start`
abbrev pub IsNumberedLeast : Option RowLeast → ℕ → Option shown.LeastRing → Type 0
IsNumberedLeast None start None = ⊤
IsNumberedLeast None start (Some line) = ⊥
IsNumberedLeast (Some least) start None = ⊥
IsNumberedLeast (Some least) start (Some line) = (line.ring ≡ least.ring) × (start + line.hole ≡ least.hole + 1)

-- the line of a file's scale, or none
abbrev pub IsUnitMistakeOfOrNone : BoardView → ℕ → Option UnitMistake → Type 0
IsUnitMistakeOfOrNone board drill None = (line : UnitMistake) → line.drill ≡ drill → IsUnitMistakeOf board line → ⊥
IsUnitMistakeOfOrNone board drill (Some line) = IsUnitMistakeOf board line × (line.drill ≡ drill)

-- the holes of a file that are searched for a scale: all of a plated drill file, none of another file
pub record IsSearched (board : BoardView) (drill : ℕ) (searched : FileRange) : Type 0 where
  pub file : searched.drill ≡ drill
  pub ordered : searched.start ≤ searched.end
  pub inside : searched.end ≤ length board.holes
  pub starts : searched.start ≡ holes_before board.files drill
  pub ends : (file : FileSum) → searched.end ≡ (if is_plated (get_or board.files drill file) then holes_before board.files (drill + 1) else searched.start)

-- these holes, for each of the first `count` files
pub record AreSearched (board : BoardView) (count : ℕ) (searched : List FileRange) : Type 0 where
  pub size : length searched ≡ count
  pub each : (k : ℕ) (d : FileRange) → k < count → IsSearched board k (get_or searched k d)

-- the line of each file's scale, or none
pub record AreFoundMistakes (board : BoardView) (found : List (Option UnitMistake)) : Type 0 where
  pub size : length found ≡ length board.files
  pub each : (k : ℕ) (d : Option UnitMistake) → k < length board.files → IsUnitMistakeOfOrNone board k (get_or found k d)

-- the line as a list, empty where there is none
abbrev pub mistake_list : Option UnitMistake → List UnitMistake
mistake_list None = []
mistake_list (Some line) = line ∷ []
