use Rattle.ring_rules.proofs.Common.{ℕ, ◌<◌, ◌≤◌, IsInZone, point_at}
use Rattle.ring_rules.proofs.tree.zone_of.Given as goal

-- the zone contains the entry points of the spots so far
abbrev pub invariant-loop-i : goal.invariant-loop-i
invariant-loop-i l = (k : ℕ) → l.fn.run.start ≤ k → k < l.i → IsInZone l.zone (point_at l.spots k)
