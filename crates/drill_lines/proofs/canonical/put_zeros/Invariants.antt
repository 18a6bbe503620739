use Rattle.drill_lines.proofs.Common.{◌≡◌, ◌++◌, replicate}
use Rattle.drill_lines.proofs.canonical.put_zeros.Given as goal

abbrev pub invariant-loop-i : goal.invariant-loop-i
invariant-loop-i l = l.text.items ≡ l.initial.text.items ++ replicate l._i 48
