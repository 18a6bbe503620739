use Rattle.gerber_commands.proofs.Common.{◌≡◌, ◌∷◌, ◌++◌, take, flat_map, canonical}
use Rattle.gerber_commands.proofs.canonical.put_further_sizes.Given as goal

abbrev pub invariant-loop-size : goal.invariant-loop-size
invariant-loop-size l = l.out.items ≡ l.initial.out.items ++ flat_map (λ size. 88 ∷ canonical size) (take l.size-index l.rest)
