use Rattle.board_report.proofs.Common.{take, AllZip, filter, IsGapEntry, is_gap}
use Rattle.board_report.proofs.gaps.gap_lacks.Given as goal

abbrev pub invariant-loop-finding : goal.invariant-loop-finding
invariant-loop-finding l = AllZip (IsGapEntry l.board l.rules.gap) (filter is_gap (take l.finding-index l.findings)) l.output.items
