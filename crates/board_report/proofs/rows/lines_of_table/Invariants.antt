use Rattle.board_report.proofs.Common.{◌≡◌, ◌<◌, ◌≤◌, ℕ, length, get_or, drop, keys, values, RingLine, IsRowLine, row_of}
use Rattle.board_report.proofs.rows.lines_of_table.Given as goal

abbrev pub invariant-loop-places : goal.invariant-loop-places
invariant-loop-places l = record {
  size : length l.lines.items ≤ length l.table.entries;
  left : l.places-iterator ≡ drop (length l.lines.items) (values l.table);
  lines : (i k : ℕ) (d : RingLine) → i < length l.lines.items → IsRowLine l.profile l.board (row_of l.file_holes (get_or (keys l.table) i k)) (get_or l.lines.items i d);
}
