use Rattle.print_json.proofs.Common.{arith}
use Rattle.print_json.proofs.Lists.{items_numbers}
use Rattle.print_json.proofs.arrays.array_numbers.Goals as goal

pub returns : goal.returns
returns g c = items_numbers (g.V.Values.values c.args.values.now) (λ k l. c.loop-place.invariant k (omega arith))
