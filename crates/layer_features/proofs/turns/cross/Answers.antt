use Rattle.layer_features.proofs.Common.{◌∙◌, ◌≤◌, ◌-ℤ◌, ◌*ℤ◌, unsigned_abs, to_z, of_z, ℤ, refl, sym, subst, arith, ints, w64}
use Rattle.pad_shapes.proofs.EdgesLemmas.{difference, fits_difference, difference_of_products}
use Rattle.layer_features.proofs.turns.cross.Goals as goal

-- how far two coordinates lie apart, as the code has it
apart : (a b : ℤ) → unsigned_abs a ≤ 10000000000000 → unsigned_abs b ≤ 10000000000000 → unsigned_abs (to_z w64 (of_z w64 (to_z w64 (of_z w64 a) -ℤ to_z w64 (of_z w64 b)))) ≤ 20000000000000
apart a b p q = subst (λ (z : ℤ). unsigned_abs z ≤ 20000000000000) (sym (difference a b a b refl refl p q)) (omega (arith, ints))

pub product-requires-clause-a : goal.product-requires-clause-a
product-requires-clause-a c = apart c.x.result c.x-2.result c.x.ensures.in_range c.x-2.ensures.in_range

pub product-requires-clause-b : goal.product-requires-clause-b
product-requires-clause-b c = apart c.y.result c.y-2.result c.y.ensures.in_range c.y-2.ensures.in_range

pub product-requires-2-clause-a : goal.product-requires-2-clause-a
product-requires-2-clause-a c = apart c.y-3.result c.y-4.result c.y-3.ensures.in_range c.y-4.ensures.in_range

pub product-requires-2-clause-b : goal.product-requires-2-clause-b
product-requires-2-clause-b c = apart c.x-3.result c.x-4.result c.x-3.ensures.in_range c.x-4.ensures.in_range

pub overflow_sub-result : goal.overflow_sub-result
overflow_sub-result c = fits_difference c.product.result c.product-2.result c.product.ensures.small c.product-2.ensures.small

pub returns : goal.returns
returns c =
    let to_x = difference c.x.result c.x-2.result _ _ c.x.ensures.value c.x-2.ensures.value c.x.ensures.in_range c.x-2.ensures.in_range in
    let point_y = difference c.y.result c.y-2.result _ _ c.y.ensures.value c.y-2.ensures.value c.y.ensures.in_range c.y-2.ensures.in_range in
    let to_y = difference c.y-3.result c.y-4.result _ _ c.y-3.ensures.value c.y-4.ensures.value c.y-3.ensures.in_range c.y-4.ensures.in_range in
    let point_x = difference c.x-3.result c.x-4.result _ _ c.x-3.ensures.value c.x-4.ensures.value c.x-3.ensures.in_range c.x-4.ensures.in_range in
    difference_of_products c.product.result c.product-2.result c.product.ensures.small c.product-2.ensures.small
    ∙ (λ i. (c.product.ensures.value ∙ (λ j. to_x j *ℤ point_y j)) i -ℤ (c.product-2.ensures.value ∙ (λ j. to_y j *ℤ point_x j)) i)
