use Rattle.drawing.proofs.Common.{arith}
use Rattle.drawing.proofs.BarLemmas.{bar_of_five, bar_of_one, bar_of_two}
use Rattle.drawing.proofs.page_layout.bar_of.Goals as goal

pub returns-then-power-limit : goal.returns-then-power-limit
returns-then-power-limit c =
    let power = c.power_within-power.ensures in
    let limit = power.1.1.1 in
    bar_of_five c.args.width power.0 (omega arith) c.power_within-power.result power.1.0 (omega arith)

pub returns-then-power-limit-2 : goal.returns-then-power-limit-2
returns-then-power-limit-2 c =
    let power = c.power_within-power.ensures in
    let limit = power.1.1.1 in
    bar_of_two c.args.width power.0 (omega arith) c.power_within-power.result power.1.0 (omega arith) (omega arith)

pub returns-else-power-limit-2 : goal.returns-else-power-limit-2
returns-else-power-limit-2 c =
    let power = c.power_within-power.ensures in
    let is = power.1.0 in
    let few = power.1.1.0 in
    let limit = power.1.1.1 in
    bar_of_one c.args.width power.0 (omega arith) c.power_within-power.result power.1.0 (omega arith) (omega arith)
