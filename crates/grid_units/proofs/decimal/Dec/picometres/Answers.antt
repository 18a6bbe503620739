use Rattle.std.proofs.Common.{◌^◌, ◌∙◌, ap, arith, rules, w64}
use Rattle.std.proofs.lemmas.Int.{to_z-of_z}
use Rattle.grid_units.specs.Numbers.{picometres, within_limit}
use Rattle.grid_units.proofs.LengthLemmas.{even, exact, solves}
use Rattle.grid_units.proofs.decimal.Dec.picometres.Goals as goal

pub returns-clause-equation : goal.returns-clause-equation
returns-clause-equation c =
    let length = to_z-of_z w64 c.units_to_picometres.result (search rules) ∙ c.units_to_picometres.ensures ∙ ap (picometres c.args.unit 8) (to_z-of_z w64 c.units.result (search rules) ∙ c.units.ensures.value) in
    solves (picometres c.args.unit 8 c.args.self) (10 ^ 8) _ _ (c.within_ten_metres.ensures ∙ ap within_limit length) (exact c.args.unit 8 c.args.self (omega arith))

pub returns-clause-even : goal.returns-clause-even
returns-clause-even c =
    let length = to_z-of_z w64 c.units_to_picometres.result (search rules) ∙ c.units_to_picometres.ensures ∙ ap (picometres c.args.unit 8) (to_z-of_z w64 c.units.result (search rules) ∙ c.units.ensures.value) in
    even c.args.unit c.args.self _ (c.within_ten_metres.ensures ∙ ap within_limit length)
