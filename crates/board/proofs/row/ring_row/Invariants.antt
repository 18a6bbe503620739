use Rattle.board.proofs.Common.{◌≡◌, ◌≤◌, take, ring_at, has_no_ring, IsLeastRingOf}
use Rattle.std.specs.Prelude.{count_by}
use Rattle.board.proofs.row.ring_row.Given as goal

-- the counts and the least ring are those of the holes so far
abbrev pub invariant-loop-hole : goal.invariant-loop-hole
invariant-loop-hole l = record {
  bare : l.bare ≡ count_by (λ k. has_no_ring (ring_at l.profile l.bests l.holes k)) (take l.hole-index l.chosen);
  few : l.bare ≤ l.hole-index;
  least : IsLeastRingOf l.profile l.bests l.holes l.chosen l.hole-index l.least;
}
