use Rattle.report_page.proofs.Common.{length, map, take, HasWritten, IsPlainFormatter, enumerate_from, gap_rows}
use Rattle.report_page.proofs.rows.write_gap_rows.Given as goal

-- the rows of the gaps so far
abbrev pub invariant-loop-i : goal.invariant-loop-i
invariant-loop-i g l =
    let report = l.rows.report.now in
    IsPlainFormatter l.initial.f
    → HasWritten g.W.Write.write_str_gives l.initial.f (gap_rows (map (λ name. name.now) l.rows.names.now) report.rules l.rows.accepted.now.gaps.now (length report.rings.items) (take l.i (enumerate_from (length report.rings.items) report.gaps.items))) l.f
