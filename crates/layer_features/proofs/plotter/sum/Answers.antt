-- A sum of two numbers of 64 bits fits 128 bits.
use Rattle.layer_features.proofs.Common.{◌≡◌, ◌≤◌, ◌^◌, ◌+ℤ◌, FitsSigned, ℤ, unsigned_abs, ap, subst, sym, ◌∙◌, arith, to_z, of_z, to_z-of_z, w128, w64}
use Rattle.std.proofs.lemmas.Int.{ints}
use Rattle.layer_features.proofs.plotter.sum.Goals as goal

in_128 : (z : ℤ) → FitsSigned w64 z → to_z w128 (of_z w128 z) ≡ z
in_128 z h = to_z-of_z w128 z (omega (arith, ints))

sum_fits : (x y : ℤ) → FitsSigned w64 x → FitsSigned w64 y → FitsSigned w128 (x +ℤ y)
sum_fits x y h l = omega (arith, ints)

sum_bound : (x y : ℤ) → FitsSigned w64 x → FitsSigned w64 y → unsigned_abs (x +ℤ y) ≤ 2 ^ 64
sum_bound x y h l = omega (arith, ints)

formed : (c : goal.After-from-2) → to_z w128 (of_z w128 c.from.result) +ℤ to_z w128 (of_z w128 c.from-2.result) ≡ c.args.a +ℤ c.args.b
formed c =
    (λ i. to_z w128 (of_z w128 ((c.from.ensures ∙ to_z-of_z w64 c.args.a c.ranges.a) i)) +ℤ to_z w128 (of_z w128 ((c.from-2.ensures ∙ to_z-of_z w64 c.args.b c.ranges.b) i)))
    ∙ (λ i. in_128 c.args.a c.ranges.a i +ℤ in_128 c.args.b c.ranges.b i)

stored : (c : goal.After-from-2) → to_z w128 (of_z w128 (to_z w128 (of_z w128 c.from.result) +ℤ to_z w128 (of_z w128 c.from-2.result))) ≡ c.args.a +ℤ c.args.b
stored c = ap (λ z. to_z w128 (of_z w128 z)) (formed c) ∙ to_z-of_z w128 _ (sum_fits c.args.a c.args.b c.ranges.a c.ranges.b)

pub overflow_add-result : goal.overflow_add-result
overflow_add-result c = subst (FitsSigned w128) (sym (formed c)) (sum_fits c.args.a c.args.b c.ranges.a c.ranges.b)

pub returns-clause-value : goal.returns-clause-value
returns-clause-value c = stored c

pub returns-clause-in_range : goal.returns-clause-in_range
returns-clause-in_range c = subst (λ (z : ℤ). unsigned_abs z ≤ 2 ^ 64) (sym (stored c)) (sum_bound c.args.a c.args.b c.ranges.a c.ranges.b)
