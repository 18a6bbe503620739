use Rattle.std.proofs.Common.{◌^◌, ◌∙◌, ap, arith, w64}
use Rattle.std.proofs.lemmas.Int.{to_z-of_z}
use Rattle.grid_units.specs.Numbers.{picometres, within_limit}
use Rattle.grid_units.proofs.LengthLemmas.{exact, solves, back_128}
use Rattle.grid_units.proofs.lengths.from_digits.Goals as goal

pub returns-clause-equation : goal.returns-clause-equation
returns-clause-equation c =
    let length = back_128 _ c.picometres.ensures.bound ∙ c.picometres.ensures.value ∙ ap (picometres c.args.unit c.args.decimals) (to_z-of_z w64 c.args.n c.ranges.n) in
    solves (picometres c.args.unit c.args.decimals c.args.n) (10 ^ c.args.decimals) _ _ (c.within_limit.ensures ∙ ap within_limit length) (exact c.args.unit c.args.decimals c.args.n (omega arith))
