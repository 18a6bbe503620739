use Rattle.ring_rules.proofs.Common.{ℕ, ◌<◌, length, point_at, IsInRegion, AddsFound, ListsFound}
use Rattle.ring_rules.proofs.index.add_rows.Given as goal

-- the rows so far are tried
abbrev pub invariant-loop-row : goal.invariant-loop-row
invariant-loop-row l = record {
  adds : AddsFound l.cells.spots l.zone l.initial.found.items l.found.items;
  listed : (i : ℕ) → i < length l.cells.spots → IsInRegion l.cells.x l.cells.y l.region.top l.row l.region.left l.region.right (point_at l.cells.spots i) → ListsFound l.cells.spots l.zone i l.found.items;
}
