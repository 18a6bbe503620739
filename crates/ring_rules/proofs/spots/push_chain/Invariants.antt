use Rattle.ring_rules.proofs.Common.{◌≡◌, ℕ, ◌+◌, ◌<◌, ◌≤◌, length, cell_of, cell_at, HasSpot, AddsSpots}
use Rattle.ring_rules.proofs.spots.push_chain.Given as goal

-- the link is one of the cell, and the places passed so far have spots
abbrev pub invariant-loop-link : goal.invariant-loop-link
invariant-loop-link l = record {
  adds : AddsSpots (cell_of l.chains.x l.chains.y) l.holes l.cell l.initial.spots l.spots;
  at : (m : ℕ) → l.link ≡ m + 1 → (m < length l.holes) × (cell_at l.chains.x l.chains.y l.holes m ≡ l.cell);
  found : (k : ℕ) → k < length l.holes → cell_at l.chains.x l.chains.y l.holes k ≡ l.cell → l.link ≤ k → HasSpot l.spots k;
}

abbrev pub decreases-loop-link : goal.decreases-loop-link
decreases-loop-link l = l.link
