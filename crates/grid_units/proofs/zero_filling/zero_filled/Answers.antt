use Rattle.std.proofs.Common.{◌≡◌, ◌*◌, ◌+◌, ◌^◌, ◌<◌, length, ◌∙◌, arith}
use Rattle.grid_units.specs.Numbers.{value}
use Rattle.grid_units.proofs.ZeroFillingLemmas.{filled_is, filled_bound, value_within, wide}
use Rattle.grid_units.proofs.zero_filling.zero_filled.Goals as goal

product : (c : goal.After-power_of_ten) → c.capped_value.result * c.power_of_ten.result ≡ value c.args.digits.now * 10 ^ c.args.zeros
product c =
    let v : c.capped_value.result ≡ value c.args.digits.now = omega (arith, c.capped_value.ensures, value_within c.args.digits.now c.requires.digits (omega (arith, c.requires.places))) in
    λ i. v i * c.power_of_ten.ensures.value i

bound : (c : goal.After-power_of_ten) → c.capped_value.result * c.power_of_ten.result < 10 ^ (length c.args.digits.now + c.args.zeros)
bound c = omega (arith, product c, filled_bound c.args.digits.now c.args.zeros c.requires.digits)

pub overflow_mul-result : goal.overflow_mul-result
overflow_mul-result c = omega (arith, bound c, wide (length c.args.digits.now + c.args.zeros) 12 c.requires.places)

pub returns-clause-value : goal.returns-clause-value
returns-clause-value c = product c ∙ filled_is c.args.digits.now c.args.zeros

pub returns-clause-bound : goal.returns-clause-bound
returns-clause-bound c = bound c
