-- The product fits in 128 bits.
use Rattle.layer_features.proofs.Common.{◌∙◌, ◌<◌, ◌≤◌, ◌^◌, ◌*ℤ◌, pos, unsigned_abs, arith, sym, subst, ℤ, FitsSigned, w128}
use Rattle.layer_features.proofs.CopiesLemmas.{stepped_is, steps_bound}
use Rattle.layer_state.proofs.SumLemmas.{steps, steps_fit}
use Rattle.layer_features.proofs.copies.stepped.Goals as goal

pub overflow_mul-result : goal.overflow_mul-result
overflow_mul-result c =
    let few : c.args.count < 2 ^ 32 = omega arith in
    subst (FitsSigned w128) (sym (steps c.from.result c.dec_length.result c.args.count c.from.ensures few c.dec_length.ensures.bound)) (steps_fit c.args.count c.dec_length.result few c.dec_length.ensures.bound)

pub returns-clause-value : goal.returns-clause-value
returns-clause-value c =
    let few : c.args.count < 2 ^ 32 = omega arith in
    stepped_is c.dec_length.result c.from.result c.args.count c.from.ensures c.dec_length.ensures.bound few
    ∙ (λ i. pos c.args.count *ℤ c.dec_length.ensures.value i)

pub returns-clause-bound : goal.returns-clause-bound
returns-clause-bound c =
    let few : c.args.count < 2 ^ 32 = omega arith in
    let is = stepped_is c.dec_length.result c.from.result c.args.count c.from.ensures c.dec_length.ensures.bound few in
    subst (λ (z : ℤ). unsigned_abs z ≤ 2 ^ 104) (sym is) (steps_bound c.dec_length.result c.args.count c.dec_length.ensures.bound few)
