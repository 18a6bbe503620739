use Rattle.board_report.proofs.Common.{◌≡◌, ◌-◌, ℕ, filter, range_with_len, is_in_row, has_radius, is_not_empty, items_at, row_of}
use Rattle.board_report.proofs.rows.table_of.Given as goal

abbrev pub invariant-loop-place : goal.invariant-loop-place
invariant-loop-place l = record {
  items : (radius : ℕ) → items_at l.table radius ≡ filter (is_in_row l.board (row_of l.file_holes radius)) (range_with_len l.file_holes.start (l.place - l.file_holes.start));
  there : (radius : ℕ) → has_radius l.table radius ≡ is_not_empty (filter (is_in_row l.board (row_of l.file_holes radius)) (range_with_len l.file_holes.start (l.place - l.file_holes.start)));
}
