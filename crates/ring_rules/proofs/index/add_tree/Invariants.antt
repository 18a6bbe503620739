use Rattle.ring_rules.proofs.Common.{ℕ, ◌-◌, ◌<◌, ◌≤◌, length, AddsFound, ListsFound}
use Rattle.ring_rules.proofs.index.add_tree.Given as goal

-- the spots before `start` are tried
abbrev pub invariant-loop-i : goal.invariant-loop-i
invariant-loop-i l = record {
  adds : AddsFound l.cells.spots l.zone l.initial.found.items l.found.items;
  listed : (k : ℕ) → l.fn.run.start ≤ k → k < l.start → k < l.fn.run.end → ListsFound l.cells.spots l.zone k l.found.items;
}

abbrev pub decreases-loop-i : goal.decreases-loop-i
decreases-loop-i l = length l.cells.nodes.items - l.i
