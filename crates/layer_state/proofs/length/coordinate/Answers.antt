-- A number of 64 bits times a small one fits 128 bits.
use Rattle.layer_state.proofs.Common.{◌≡◌, ◌≤◌, ◌^◌, ◌*ℤ◌, pos, unsigned_abs, ℤ, FitsSigned, to_z, of_z, ◌∙◌, sym, ap, subst, to_z-of_z, w128, w64, factors, product_fits, product_bound}
use Rattle.layer_state.proofs.length.coordinate.Goals as goal

formed : (c : goal.After-from-2) → to_z w128 (of_z w128 c.from.result) *ℤ to_z w128 (of_z w128 c.from-2.result) ≡ c.args.n *ℤ pos c.step_length.result
formed c = factors c.args.n _ _ c.step_length.result c.ranges.n c.step_length.ensures.small (c.from.ensures ∙ to_z-of_z w64 c.args.n c.ranges.n) c.from-2.ensures

stored : (c : goal.After-from-2) → to_z w128 (of_z w128 (to_z w128 (of_z w128 c.from.result) *ℤ to_z w128 (of_z w128 c.from-2.result))) ≡ c.args.n *ℤ pos c.step_length.result
stored c = ap (λ z. to_z w128 (of_z w128 z)) (formed c) ∙ to_z-of_z w128 _ (product_fits c.args.n c.step_length.result c.ranges.n c.step_length.ensures.small)

pub overflow_mul-result : goal.overflow_mul-result
overflow_mul-result c = subst (FitsSigned w128) (sym (formed c)) (product_fits c.args.n c.step_length.result c.ranges.n c.step_length.ensures.small)

pub returns-clause-value : goal.returns-clause-value
returns-clause-value c = stored c ∙ (λ i. c.args.n *ℤ pos (c.step_length.ensures.value i))

pub returns-clause-bound : goal.returns-clause-bound
returns-clause-bound c = subst (λ (z : ℤ). unsigned_abs z ≤ 2 ^ 98) (sym (stored c)) (product_bound c.args.n c.step_length.result c.ranges.n c.step_length.ensures.small)
