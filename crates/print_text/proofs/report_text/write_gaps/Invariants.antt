use Rattle.print_text.proofs.Common.{map, take, HasWritten, IsPlainFormatter, enumerate_from, gap_lines}
use Rattle.print_text.proofs.report_text.write_gaps.Given as goal

abbrev pub invariant-loop-i : goal.invariant-loop-i
invariant-loop-i g l =
    IsPlainFormatter l.initial.f → HasWritten g.W.Write.write_str_gives l.initial.f (gap_lines (map (λ name. name.now) l.text.names.now) l.text.rules.now l.text.accepted.now l.text.limit l.text.rings (take l.i (enumerate_from l.text.rings l.text.gaps.now))) l.f
