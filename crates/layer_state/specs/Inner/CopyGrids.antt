-- Bounds that keep a grid's sums within 128 bits.
use Rattle.std.specs.Prelude.{◌≤◌, ◌^◌, unsigned_abs}
use Rattle.layer_state.specs.declared.grid.CopyGrid.{CopyGrid}

-- no product or sum of the coordinates of a copy leaves 128 bits
pub record IsBounded (grid : CopyGrid) : Type 0 where
  pub x : unsigned_abs grid.x ≤ 2 ^ 98
  pub y : unsigned_abs grid.y ≤ 2 ^ 98
  pub step_x : unsigned_abs grid.step_x ≤ 2 ^ 71
  pub step_y : unsigned_abs grid.step_y ≤ 2 ^ 71
