use Rattle.print_text.proofs.Common.{◌≡◌, map, take, smallest}
use Rattle.print_text.proofs.tallies.smallest_gap.Given as goal

abbrev pub invariant-loop-i : goal.invariant-loop-i
invariant-loop-i l = l.least ≡ smallest (map (λ lack. lack.gap) (take l.i l.gaps))
