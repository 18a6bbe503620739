use Rattle.print_text.proofs.Common.{◌≡◌, take, filter, filter_map, is_alike, smallest, ring_of}
use Rattle.print_text.proofs.summary.smallest_alike.Given as goal

abbrev pub invariant-loop-i : goal.invariant-loop-i
invariant-loop-i l = l.least ≡ smallest (filter_map (λ lack. ring_of lack.cause) (filter (is_alike l.one) (take l.i l.rings)))
