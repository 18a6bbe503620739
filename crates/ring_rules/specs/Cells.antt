-- The cells of a grid over a board.
use Rattle.std.specs.Prelude.{ℕ, ℤ, ◌+◌, ◌*◌, min, List}
use Rattle.grid_units.specs.Points.{GridPoint}
use Rattle.ring_rules.specs.Places.{steps_above, entry_at}
use Rattle.ring_rules.specs.declared.finding.Drilled.{Drilled}
use Rattle.ring_rules.specs.declared.cell_size.Axis.{Axis}

-- the place of a coordinate on an axis, at most the last one
abbrev pub place_of : Axis → ℤ → ℕ
place_of s v = min (steps_above s.low s.shift v) s.last

-- the column of a point: the place of its x
abbrev pub column_of : Axis → GridPoint → ℕ
column_of s p = place_of s p.x

-- the row of a point: the place of its y
abbrev pub row_of : Axis → GridPoint → ℕ
row_of s p = place_of s p.y

-- the number of the cell of a point, counted row by row from 0
abbrev pub cell_of : Axis → Axis → GridPoint → ℕ
cell_of x y p = row_of y p * (x.last + 1) + column_of x p

-- the number of the cell of the hole at a place of the list
abbrev pub cell_at : Axis → Axis → List Drilled → ℕ → ℕ
cell_at x y holes k = cell_of x y (entry_at holes k)
