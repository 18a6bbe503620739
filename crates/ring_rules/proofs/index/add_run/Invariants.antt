use Rattle.ring_rules.proofs.Common.{ℕ, ◌<◌, ◌≤◌, AddsFound, ListsFound}
use Rattle.ring_rules.proofs.index.add_run.Given as goal

-- the spots so far are tried
abbrev pub invariant-loop-i : goal.invariant-loop-i
invariant-loop-i l = record { adds : AddsFound l.spots l.zone l.initial.found.items l.found.items; listed : (j : ℕ) → l.fn.run.start ≤ j → j < l.i → ListsFound l.spots l.zone j l.found.items }
