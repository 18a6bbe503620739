-- A number of 64 bits times at most 25,400,000,000 fits 128 bits.
use Rattle.std.proofs.Common.{◌≡◌, ◌≤◌, ◌^◌, ◌/◌, ◌*ℤ◌, pos, FitsSigned, unsigned_abs, ℤ, to_z, of_z, ◌∙◌, sym, ap, subst}
use Rattle.std.proofs.lemmas.Int.{to_z-of_z}
use mir.Syntax.{w128, w64}
use Rattle.grid_units.proofs.LengthLemmas.{factors, quotient_small, product_fits, product_bound}
use Rattle.grid_units.proofs.lengths.picometres.Goals as goal

product : (c : goal.After-from-2) → to_z w128 (of_z w128 c.from.result) *ℤ to_z w128 (of_z w128 c.from-2.result) ≡ c.args.n *ℤ pos (c.unit_length.result / c.power_of_ten.result)
product c =
    factors c.args.n _ _ _ c.ranges.n (quotient_small c.args.unit _ _ c.unit_length.ensures) (c.from.ensures ∙ to_z-of_z w64 c.args.n c.ranges.n) c.from-2.ensures

fits : (c : goal.After-from-2) → FitsSigned w128 (c.args.n *ℤ pos (c.unit_length.result / c.power_of_ten.result))
fits c = product_fits c.args.n _ c.ranges.n (quotient_small c.args.unit _ _ c.unit_length.ensures)

stored : (c : goal.After-from-2) → to_z w128 (of_z w128 (to_z w128 (of_z w128 c.from.result) *ℤ to_z w128 (of_z w128 c.from-2.result))) ≡ c.args.n *ℤ pos (c.unit_length.result / c.power_of_ten.result)
stored c = ap (λ z. to_z w128 (of_z w128 z)) (product c) ∙ to_z-of_z w128 _ (fits c)

pub overflow_mul-result : goal.overflow_mul-result
overflow_mul-result c = subst (FitsSigned w128) (sym (product c)) (fits c)

pub returns-clause-value : goal.returns-clause-value
returns-clause-value c = stored c ∙ (λ i. c.args.n *ℤ pos (c.unit_length.ensures i / c.power_of_ten.ensures.value i))

pub returns-clause-bound : goal.returns-clause-bound
returns-clause-bound c = subst (λ (z : ℤ). unsigned_abs z ≤ 2 ^ 98) (sym (stored c)) (product_bound c.args.n _ c.ranges.n (quotient_small c.args.unit _ _ c.unit_length.ensures))
