use Rattle.ring_rules.proofs.Common.{ℕ, ◌<◌, IsInZone, entry_at}
use Rattle.ring_rules.proofs.layout.entry_zone.Given as goal

-- the zone contains the entry points of the holes so far
abbrev pub invariant-loop-drilled : goal.invariant-loop-drilled
invariant-loop-drilled l = (k : ℕ) → k < l.drilled-index → IsInZone l.zone (entry_at l.holes k)
