-- Where the panels of a board are on a page (docs/FORMATS.md, Pictures). Lengths are whole picometres.
use Rattle.std.specs.Prelude.{◌≡◌, ◌≤◌, ◌<◌, ◌+◌, ◌*◌, ◌/◌, ◌%◌, ◌^◌, ◌⊎◌, ℕ, min, max, unsigned_abs, Option, None, Some, is_some}
use Rattle.std.specs.Int.{abs_diff, div_ceil}
use Rattle.grid_units.specs.Holes.{GridRules}
use Rattle.picture.specs.declared.frame.Frame.{Frame}
use Rattle.drawing.specs.Boxes.{GridExtent, IsBox}
use Rattle.drawing.specs.declared.layout.Layout.{Layout}

-- ---- columns

-- a length times a count, at most 1,000 km
abbrev pub capped_times : ℕ → ℕ → ℕ
capped_times length count = min (length * count) (10 ^ 18)

-- the width of a box
abbrev pub width_of : Frame → ℕ
width_of f = unsigned_abs f.width

-- the height of a box
abbrev pub height_of : Frame → ℕ
height_of f = unsigned_abs f.height

-- the width of this many boxes side by side
abbrev pub boxes_width : Frame → ℕ → ℕ
boxes_width f columns = capped_times (width_of f) columns

-- the height of `count` boxes in this many columns
abbrev pub boxes_height : Frame → ℕ → ℕ → ℕ
boxes_height f count columns = capped_times (height_of f) (div_ceil count columns)

-- the difference of that width and that height: 0 for a square
abbrev pub square_error : Frame → ℕ → ℕ → ℕ
square_error f count columns = abs_diff (boxes_width f columns) (boxes_height f count columns)

-- among the numbers from 1 to `limit`, the first for which an amount is least
pub record IsFirstLeast (amount : ℕ → ℕ) (limit n : ℕ) : Type 0 where
  pub some : 1 ≤ n
  pub within : n ≤ limit
  pub least : (k : ℕ) → 1 ≤ k → k ≤ limit → amount n ≤ amount k
  pub first : (k : ℕ) → 1 ≤ k → k < n → amount n < amount k

-- the number of columns with which the boxes together are nearest to a square: for four squares 2
abbrev pub AreColumns : Frame → ℕ → ℕ → Type 0
AreColumns f count columns = IsFirstLeast (square_error f count) (max 1 count) columns

-- ---- the scale

-- 1, 2 or 5 times a power of ten
abbrev pub IsRound : ℕ → Type 0
IsRound n = (k : ℕ) × ((n ≡ 10 ^ k) ⊎ ((n ≡ 2 * 10 ^ k) ⊎ (n ≡ 5 * 10 ^ k)))

-- the bar of the scale: the greatest such length that is at most a quarter of the box's width: of 107.2 mm it is 20 mm
pub record IsBar (width bar : ℕ) : Type 0 where
  pub round : IsRound bar
  pub fits : 4 * bar ≤ width
  pub greatest : (n : ℕ) → IsRound n → 4 * n ≤ width → n ≤ bar

-- ---- the page

-- the unit: a 75th of the longer side of all boxes together, at most 10 m, rounded down
abbrev pub unit_of : Frame → ℕ → ℕ → ℕ
unit_of f count columns = min (max (boxes_width f columns) (boxes_height f count columns) / 75) (10 ^ 13)

-- the required ring, 0 where there are no rules
abbrev pub ring_of : Option GridRules → ℕ
ring_of None = 0
ring_of (Some rules) = rules.ring

-- the layout of a page with this many panels, one for each copper file
pub record IsLayout (extent : Option GridExtent) (count : ℕ) (given_rules : Option GridRules) (l : Layout) : Type 0 where
  pub box : IsBox extent l.frame
  pub columns : AreColumns l.frame count l.columns
  pub rows : l.rows ≡ div_ceil count l.columns
  pub unit : l.pen.unit ≡ unit_of l.frame count l.columns
  pub ring : l.pen.ring ≡ ring_of given_rules
  pub rules : l.pen.has_rules ≡ is_some given_rules
  pub bar : IsBar (width_of l.frame) l.bar

-- the width of a column: that of the box, at least 30 units for the words
abbrev pub column_width : Layout → ℕ
column_width l = max (width_of l.frame) (30 * l.pen.unit)

-- from the left of a column to that of the next: its width and 3 units
abbrev pub column_step : Layout → ℕ
column_step l = column_width l + 3 * l.pen.unit

-- from the top of a row to that of the next: the box's height and 5 units
abbrev pub row_step : Layout → ℕ
row_step l = height_of l.frame + 5 * l.pen.unit

-- from the left of the page to a layer's box; the layers, counted from 0, fill the columns row by row
abbrev pub box_left : Layout → ℕ → ℕ
box_left l layer = 3 * l.pen.unit + capped_times (column_step l) (layer % l.columns)

-- from the top of the page to a layer's box
abbrev pub box_top : Layout → ℕ → ℕ
box_top l layer = 9 * l.pen.unit + capped_times (row_step l) (layer / l.columns)

-- from the top of the page to the end of the last row
abbrev pub boxes_end : Layout → ℕ
boxes_end l = 4 * l.pen.unit + capped_times (row_step l) l.rows

-- the width of the page: its columns with 3 units before each and after the last, at least 60 units
abbrev pub page_width : Layout → ℕ
page_width l = max (3 * l.pen.unit + capped_times (column_step l) l.columns) (60 * l.pen.unit)

-- the height of the page: its rows, and 10 units for the scale and the legend
abbrev pub page_height : Layout → ℕ
page_height l = boxes_end l + 10 * l.pen.unit

-- the longer side of the page
abbrev pub longer_side : Layout → ℕ
longer_side l = max (max (page_width l) (page_height l)) 1

-- a side of the page in pixels: in proportion to the longer side, which has 1,200; at least 1
abbrev pub pixels : Layout → ℕ → ℕ
pixels l length = max (length * 1200 / longer_side l) 1
