use Rattle.ringcheck.proofs.Common.{◌≡◌, map, take}
use Rattle.ringcheck.proofs.packages.names_of.Given as goal

abbrev pub invariant-loop-entry : goal.invariant-loop-entry
invariant-loop-entry l = map (λ name. name.now) l.names.items ≡ map (λ entry. entry.name) (take l.entry-index l.entries)
