use Rattle.board_report.proofs.Common.{AreRowLines}
use Rattle.board_report.proofs.LayerLinesLemmas.{IsUpTo}
use Rattle.board_report.proofs.rows.push_layer_lines.Given as goal

abbrev pub invariant-loop-file : goal.invariant-loop-file
invariant-loop-file l = AreRowLines l.profile l.board (IsUpTo l.files l.fn.layer l.file-index) l.lines.items
