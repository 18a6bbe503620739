use Rattle.print_text.proofs.Common.{map, take, HasWritten, IsPlainFormatter, enumerate_from, ring_lines}
use Rattle.print_text.proofs.report_text.write_rings.Given as goal

abbrev pub invariant-loop-i : goal.invariant-loop-i
invariant-loop-i g l =
    IsPlainFormatter l.initial.f → HasWritten g.W.Write.write_str_gives l.initial.f (ring_lines (map (λ name. name.now) l.page.names.now) l.page.rules.now l.page.accepted.now l.page.limit l.run.layer (take l.i (enumerate_from 0 l.page.rings.now))) l.f
