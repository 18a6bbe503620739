use Rattle.ring_rules.proofs.Common.{ℕ, ◌+◌, ◌<◌, ◌≤◌, spot_at}
use Rattle.ring_rules.proofs.ring_index.least_reach.Given as goal

-- the holes so far ask for no less
abbrev pub invariant-loop-i : goal.invariant-loop-i
invariant-loop-i l = record { least : (i : ℕ) → i < l.i → l.least ≤ (spot_at l.spots i).hole.radius + l.rules.ring; bound : l.least ≤ 15000000000000 }
