use Rattle.ring_rules.proofs.Common.{◌≡◌, ◌+◌, ◌*◌, length, IsChained, cell_at}
use Rattle.ring_rules.proofs.cells.links.Given as goal

-- the holes so far are chained
abbrev pub invariant-loop-drilled : goal.invariant-loop-drilled
invariant-loop-drilled l = record { count : length l.head.items ≡ (l.y.last + 1) * (l.x.last + 1); chained : IsChained (cell_at l.x l.y l.holes) l.drilled-index l.head.items l.next.items }
