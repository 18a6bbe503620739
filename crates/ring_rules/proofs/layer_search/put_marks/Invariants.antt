use Rattle.ring_rules.proofs.Common.{◌≡◌, ℕ, ◌<◌, Bool, length, spot_at, is_marked}
use Rattle.ring_rules.proofs.layer_search.put_marks.Given as goal

-- the marks of the spots so far are put, for any test that the marks stand for
abbrev pub invariant-loop-i : goal.invariant-loop-i
invariant-loop-i l = record {
  size : length l.marks ≡ length l.initial.marks;
  done : (test : ℕ → Bool) → ((i : ℕ) → i < length l.spots → is_marked l.own i ≡ test (spot_at l.spots i).place) → (i : ℕ) → i < l.i → is_marked l.marks (spot_at l.spots i).place ≡ test (spot_at l.spots i).place;
}
