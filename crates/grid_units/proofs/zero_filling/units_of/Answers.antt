use Rattle.std.proofs.Common.{◌*◌, ◌^◌, ◌<◌, ap, ◌∙◌, arith}
use Rattle.grid_units.proofs.ZeroFillingLemmas.{scaled_is, scaled_bound}
use Rattle.grid_units.proofs.zero_filling.units_of.Goals as goal

bound : (c : goal.After-power_of_ten) → c.args.number * c.power_of_ten.result < 10 ^ 14
bound c = omega (arith, ap (λ n. c.args.number * n) c.power_of_ten.ensures.value, scaled_bound c.args.number c.args.i c.args.d c.requires.whole c.requires.decimals c.requires.number)

pub overflow_mul-result : goal.overflow_mul-result
overflow_mul-result c = omega (arith, bound c)

pub returns-clause-value : goal.returns-clause-value
returns-clause-value c = ap (λ n. c.args.number * n) c.power_of_ten.ensures.value ∙ scaled_is c.args.number c.args.d c.requires.decimals

pub returns-clause-bound : goal.returns-clause-bound
returns-clause-bound c = bound c
