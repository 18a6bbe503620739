use Rattle.ring_rules.proofs.Common.{ℕ, ◌<◌, ◌≤◌, hole_at, abs_diff}
use Rattle.ring_rules.proofs.near.limits_of.Given as goal

-- no hole so far exceeds the lengths
abbrev pub invariant-loop-drilled : goal.invariant-loop-drilled
invariant-loop-drilled l = record {
  radii : (k : ℕ) → k < l.drilled-index → (hole_at l.holes k).radius ≤ l.radius;
  along_x : (k : ℕ) → k < l.drilled-index → abs_diff (hole_at l.holes k).from.x (hole_at l.holes k).to.x ≤ l.x;
  along_y : (k : ℕ) → k < l.drilled-index → abs_diff (hole_at l.holes k).from.y (hole_at l.holes k).to.y ≤ l.y;
  radius_in_range : l.radius ≤ 5000000000000;
  x_in_range : l.x ≤ 20000000000000;
  y_in_range : l.y ≤ 20000000000000;
}
