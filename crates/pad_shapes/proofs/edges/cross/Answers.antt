use Rattle.std.proofs.Common.{◌≤◌, ◌∙◌, sym, subst, ap, ℤ, ◌-ℤ◌, unsigned_abs}
use Rattle.pad_shapes.proofs.EdgesLemmas.{fits_difference, difference_of_products, difference_bound, product_is}
use Rattle.pad_shapes.proofs.edges.cross.Goals as goal

pub overflow_sub-result : goal.overflow_sub-result
overflow_sub-result c = fits_difference c.product.result c.product-2.result c.product.ensures.small c.product-2.ensures.small

pub returns-clause-value : goal.returns-clause-value
returns-clause-value c =
    let left = product_is c.product.result _ _ _ _ c.step-dx.ensures.small.0 c.step_to-x.ensures.small.1 (ap (λ (v : ℤ × ℤ). v.0) c.step-dx.ensures.value) (ap (λ (v : ℤ × ℤ). v.1) c.step_to-x.ensures.value) c.product.ensures.value in
    let right = product_is c.product-2.result _ _ _ _ c.step-dx.ensures.small.1 c.step_to-x.ensures.small.0 (ap (λ (v : ℤ × ℤ). v.1) c.step-dx.ensures.value) (ap (λ (v : ℤ × ℤ). v.0) c.step_to-x.ensures.value) c.product-2.ensures.value in
    difference_of_products c.product.result c.product-2.result c.product.ensures.small c.product-2.ensures.small ∙ (λ i. left i -ℤ right i)

pub returns-clause-small : goal.returns-clause-small
returns-clause-small c =
    subst (λ (z : ℤ). unsigned_abs z ≤ 1600000000000000000000000000) (sym (difference_of_products c.product.result c.product-2.result c.product.ensures.small c.product-2.ensures.small))
    (difference_bound c.product.result c.product-2.result c.product.ensures.small c.product-2.ensures.small)
