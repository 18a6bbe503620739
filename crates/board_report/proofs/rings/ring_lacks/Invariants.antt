use Rattle.board_report.proofs.Common.{take, IfSome, not, AllZip, filter, IsCurrentLayer, IsRingEntry, is_gap}
use Rattle.board_report.proofs.rings.ring_lacks.Given as goal

abbrev pub invariant-loop-finding : goal.invariant-loop-finding
invariant-loop-finding l = record {
  current : IfSome l.current (IsCurrentLayer l.board);
  output : AllZip (IsRingEntry l.board l.fn.rules) (filter (λ finding. not (is_gap finding)) (take l.finding-index l.findings)) l.output.items;
}
