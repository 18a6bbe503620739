use Rattle.print_text.proofs.Common.{◌≡◌, take, filter_map, smallest, ring_of}
use Rattle.print_text.proofs.tallies.smallest_ring.Given as goal

abbrev pub invariant-loop-i : goal.invariant-loop-i
invariant-loop-i l = l.least ≡ smallest (filter_map (λ lack. ring_of lack.cause) (take l.i l.rings))
