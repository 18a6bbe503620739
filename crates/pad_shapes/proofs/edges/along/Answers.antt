use Rattle.std.proofs.Common.{◌∙◌, ℤ, ◌+ℤ◌, ap}
use Rattle.pad_shapes.proofs.EdgesLemmas.{product_is, sum_of_products}
use Rattle.pad_shapes.proofs.edges.along.Goals as goal

pub returns : goal.returns
returns c =
    let x = product_is c.product.result _ _ _ _ c.step-dx.ensures.small.0 c.step_to-x.ensures.small.0 (ap (λ (v : ℤ × ℤ). v.0) c.step-dx.ensures.value) (ap (λ (v : ℤ × ℤ). v.0) c.step_to-x.ensures.value) c.product.ensures.value in
    let y = product_is c.product-2.result _ _ _ _ c.step-dx.ensures.small.1 c.step_to-x.ensures.small.1 (ap (λ (v : ℤ × ℤ). v.1) c.step-dx.ensures.value) (ap (λ (v : ℤ × ℤ). v.1) c.step_to-x.ensures.value) c.product-2.ensures.value in
    sum_of_products c.product.result c.product-2.result c.product.ensures.small c.product-2.ensures.small ∙ (λ i. x i +ℤ y i)
