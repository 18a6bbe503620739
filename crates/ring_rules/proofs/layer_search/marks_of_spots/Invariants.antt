use Rattle.ring_rules.proofs.Common.{◌≡◌, ℕ, ◌<◌, length, spot_at, is_marked}
use Rattle.ring_rules.proofs.layer_search.marks_of_spots.Given as goal

-- the spots so far have their marks
abbrev pub invariant-loop-i : goal.invariant-loop-i
invariant-loop-i l = record { size : length l.own.items ≡ l.i; same : (i : ℕ) → i < l.i → is_marked l.own.items i ≡ is_marked l.marks (spot_at l.spots i).place }
