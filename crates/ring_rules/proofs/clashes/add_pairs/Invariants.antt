use Rattle.ring_rules.proofs.Common.{ℕ, ◌<◌, get_or, AddsClashes, ListsClash}
use Rattle.ring_rules.proofs.clashes.add_pairs.Given as goal

-- the pairs with the spots so far are there
abbrev pub invariant-loop-other : goal.invariant-loop-other
invariant-loop-other l = record {
  adds : AddsClashes l.rules.gap l.spots l.initial.pairs.items l.pairs.items;
  found : (n : ℕ) → n < l.other-index → ListsClash l.rules.gap l.spots l.i (get_or l.others n 0) l.pairs.items;
}
