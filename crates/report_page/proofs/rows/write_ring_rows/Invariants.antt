use Rattle.report_page.proofs.Common.{map, take, HasWritten, IsPlainFormatter, enumerate_from, ring_rows}
use Rattle.report_page.proofs.rows.write_ring_rows.Given as goal

-- the rows of the rings so far
abbrev pub invariant-loop-i : goal.invariant-loop-i
invariant-loop-i g l =
    IsPlainFormatter l.initial.f
    → HasWritten g.W.Write.write_str_gives l.initial.f (ring_rows (map (λ name. name.now) l.rows.names.now) l.rows.report.now.layers.items l.rows.report.now.rules l.rows.accepted.now.rings.now (take l.i (enumerate_from 0 l.rows.report.now.rings.items))) l.f
