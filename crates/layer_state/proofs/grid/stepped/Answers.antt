-- The steps and their sum with the start fit 128 bits.
use Rattle.layer_state.proofs.Common.{FitsSigned, arith, ap, subst, sym, ◌∙◌, to_z, of_z, to_z-of_z, w128}
use Rattle.layer_state.proofs.SumLemmas.{steps, steps_fit, stepped, stepped_fits}
use Rattle.layer_state.proofs.grid.stepped.Goals as goal

pub overflow_mul-result : goal.overflow_mul-result
overflow_mul-result c = subst (FitsSigned w128) (sym (steps c.from.result c.args.step c.args.count c.from.ensures (omega (arith, c.ranges.count)) c.requires.step)) (steps_fit c.args.count c.args.step (omega (arith, c.ranges.count)) c.requires.step)

pub overflow_add-result : goal.overflow_add-result
overflow_add-result c =
    subst (FitsSigned w128) (sym (stepped c.args.start c.from.result c.args.step c.args.count c.from.ensures c.requires.start (omega (arith, c.ranges.count)) c.requires.step))
    (stepped_fits c.args.start c.args.step c.args.count c.requires.start (omega (arith, c.ranges.count)) c.requires.step)

pub returns : goal.returns
returns c =
    ap (λ z. to_z w128 (of_z w128 z)) (stepped c.args.start c.from.result c.args.step c.args.count c.from.ensures c.requires.start (omega (arith, c.ranges.count)) c.requires.step)
    ∙ to_z-of_z w128 _ (stepped_fits c.args.start c.args.step c.args.count c.requires.start (omega (arith, c.ranges.count)) c.requires.step)
