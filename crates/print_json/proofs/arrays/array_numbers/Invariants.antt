use Rattle.print_json.proofs.Common.{ℕ, ◌<◌, get_or, null, HasNumbers}
use Rattle.print_json.proofs.arrays.array_numbers.Given as goal

abbrev pub invariant-loop-place : goal.invariant-loop-place
invariant-loop-place g l = (k : ℕ) → k < l.place → HasNumbers (get_or (g.V.Values.values l.values) k null)
