use Rattle.ring_rules.proofs.Common.{ℕ, ◌<◌, AddsClashes, ListsClashes}
use Rattle.ring_rules.proofs.near.add_all_pairs.Given as goal

-- the pairs of the spots so far with all that are no larger are listed
abbrev pub invariant-loop-i : goal.invariant-loop-i
invariant-loop-i l = record { adds : AddsClashes l.rules.gap l.cells.spots l.initial.pairs.items l.pairs.items; found : (j : ℕ) → j < l.i → ListsClashes l.rules.gap l.cells.spots j l.pairs.items }
