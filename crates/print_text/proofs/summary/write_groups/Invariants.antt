use Rattle.print_text.proofs.Common.{take, HasWritten, IsPlainFormatter, enumerate_from, group_lines}
use Rattle.print_text.proofs.summary.write_groups.Given as goal

abbrev pub invariant-loop-i : goal.invariant-loop-i
invariant-loop-i g l =
    IsPlainFormatter l.initial.f → HasWritten g.W.Write.write_str_gives l.initial.f (group_lines l.name l.rings l.run.layer (take l.i (enumerate_from 0 l.rings))) l.f
