-- The product of two differences fits 128 bits.
use Rattle.layer_features.proofs.Common.{◌≡◌, ◌≤◌, ◌*ℤ◌, unsigned_abs, ℤ, to_z, of_z, ◌∙◌, sym, ap, subst, arith, to_z-of_z, w128, w64}
use Rattle.pad_shapes.proofs.EdgesLemmas.{factors, product_fits, product_bound}
use Rattle.layer_features.proofs.turns.product.Goals as goal

wider : (z : ℤ) → unsigned_abs z ≤ 20000000000000 → unsigned_abs z ≤ 40000000000000
wider z h = omega (arith, h)

stored : (c : goal.After-from-2) → to_z w128 (of_z w128 (to_z w128 (of_z w128 c.from.result) *ℤ to_z w128 (of_z w128 c.from-2.result))) ≡ c.args.a *ℤ c.args.b
stored c =
    ap (λ z. to_z w128 (of_z w128 z)) (factors _ _ c.args.a c.args.b c.ranges.a c.ranges.b (c.from.ensures ∙ to_z-of_z w64 c.args.a c.ranges.a) (c.from-2.ensures ∙ to_z-of_z w64 c.args.b c.ranges.b))
    ∙ to_z-of_z w128 _ (product_fits c.args.a c.args.b c.requires.a (wider c.args.b c.requires.b))

pub returns-clause-value : goal.returns-clause-value
returns-clause-value c = stored c

pub returns-clause-small : goal.returns-clause-small
returns-clause-small c = subst (λ (z : ℤ). unsigned_abs z ≤ 800000000000000000000000000) (sym (stored c)) (product_bound c.args.a c.args.b c.requires.a (wider c.args.b c.requires.b))
