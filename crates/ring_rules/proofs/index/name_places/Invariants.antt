use Rattle.ring_rules.proofs.Common.{◌≡◌, ℕ, ◌<◌, ◌≤◌, get_or, spot_at}
use Rattle.ring_rules.proofs.index.name_places.Given as goal

-- the indices so far are replaced
abbrev pub invariant-loop-n : goal.invariant-loop-n
invariant-loop-n l = record {
  done : (m : ℕ) → m < l.n → get_or l.found m 0 ≡ (spot_at l.spots (get_or l.initial.found m 0)).place;
  rest : (m : ℕ) → l.n ≤ m → get_or l.found m 0 ≡ get_or l.initial.found m 0;
}
