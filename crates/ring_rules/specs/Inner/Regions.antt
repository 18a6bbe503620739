-- Regions of a grid: a range of rows and a range of columns. Rows run from `top` to `bottom`, columns from `left` to `right`, ends excluded.
use Rattle.std.specs.Prelude.{◌≡◌, ℕ, ◌+◌, ◌*◌, ◌^◌, ◌<◌, ◌≤◌, Bool, true, false, List, length}
use Rattle.grid_units.specs.Points.{GridPoint}
use Rattle.ring_rules.specs.Places.{IsChained}
use Rattle.ring_rules.specs.Cells.{column_of, row_of, cell_at}
use Rattle.ring_rules.specs.Spots.{point_at}
use Rattle.ring_rules.specs.Inner.Marks.{is_marked}
use Rattle.ring_rules.specs.declared.finding.Drilled.{Drilled}
use Rattle.ring_rules.specs.declared.spots.Spot.{Spot}
use Rattle.ring_rules.specs.declared.cell_size.Axis.{Axis}

-- a point in these rows and columns of a grid
pub record IsInRegion (x y : Axis) (top bottom left right : ℕ) (p : GridPoint) : Type 0 where
  pub row_from : top ≤ row_of y p
  pub row_below : row_of y p < bottom
  pub column_from : left ≤ column_of x p
  pub column_below : column_of x p < right

-- the holes of a board are in the chains of their cells, and the cells are at most 2^62
pub record IsLaidOut (x y : Axis) (head next : List ℕ) (holes : List Drilled) : Type 0 where
  pub count : length head ≡ (y.last + 1) * (x.last + 1)
  pub chained : IsChained (cell_at x y holes) (length holes) head next
  pub fits : (y.last + 1) * (x.last + 1) ≤ 2 ^ 62

-- no mark is left in a region where the test passes
abbrev pub NoMarkPassesIn : (ℕ → Bool) → Axis → Axis → List Spot → ℕ → ℕ → ℕ → ℕ → List Bool → Type 0
NoMarkPassesIn test x y spots top bottom left right marks =
    (i : ℕ) → i < length spots → IsInRegion x y top bottom left right (point_at spots i) → is_marked marks i ≡ true → test i ≡ false
