use Rattle.package_check.proofs.Common.{◌≡◌, ◌≤◌, ◌<◌, ℕ, length, ◌+◌, ◌-◌, kept_at}
use Rattle.package_check.proofs.slots.put.Given as goal

abbrev pub invariant-loop-slots : goal.invariant-loop-slots
invariant-loop-slots g l = record {
  same : (i : ℕ) → kept_at l.slots.items i ≡ kept_at l.initial.slots.items i;
  size : (n : ℕ) → length l.initial.slots.items ≤ n → l.index < n → length l.slots.items ≤ n;
}

abbrev pub decreases-loop-slots : goal.decreases-loop-slots
decreases-loop-slots g l = l.index + 1 - length l.slots.items
