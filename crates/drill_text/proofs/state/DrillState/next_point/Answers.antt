use Rattle.drill_text.proofs.Common.{◌∙◌, inl, inr, length, Err, ap, sym, Reason, err_from_is_err_and, state_of}
use Rattle.drill_text.specs.Inner.StateSteps.{next_point}
use Rattle.drill_text.specs.Repeats.{steps_on}
use Rattle.drill_text.proofs.RepeatLemmas.{far_hole, no_width}
use Rattle.drill_text.proofs.state.DrillState.next_point.Goals as goal

pub returns-in_err-width-clause-err : goal.returns-in_err-width-clause-err
returns-in_err-width-clause-err c =
    let p = err_from_is_err_and c.from_residual.result c.from_residual.ensures.1 in
    rw (p.1, p.2) (no_width (state_of c.args.self.now) (length c.args.self.now.holes.items) (next_point (state_of c.args.self.now) c.args.step.now) c.in_err-width.field-0.0 (sym c.in_err-width.ensures.exact))

pub returns-in_err-x-clause-err : goal.returns-in_err-x-clause-err
returns-in_err-x-clause-err c =
    let p = err_from_is_err_and c.from_residual-in_err-x.result c.from_residual-in_err-x.ensures.1 in
    let s = state_of c.args.self.now in
    let step = c.args.step.now in
    let far = c.in_err-x.ensures.err in
    rw (p.1, p.2) (far_hole s (length c.args.self.now.holes.items) c.in_ok-width.field-0 (steps_on 1 s.x step.x) (steps_on 1 s.y step.y) (sym c.in_ok-width.ensures.exact) (inl far.1) ∙ ap (λ (r : Reason). Err r) (sym far.0))

pub returns-in_err-y-clause-err : goal.returns-in_err-y-clause-err
returns-in_err-y-clause-err c =
    let p = err_from_is_err_and c.from_residual-in_err-y.result c.from_residual-in_err-y.ensures.1 in
    let s = state_of c.args.self.now in
    let step = c.args.step.now in
    let far = c.in_err-y.ensures.err in
    rw (p.1, p.2) (far_hole s (length c.args.self.now.holes.items) c.in_ok-width.field-0 (steps_on 1 s.x step.x) (steps_on 1 s.y step.y) (sym c.in_ok-width.ensures.exact) (inr far.1) ∙ ap (λ (r : Reason). Err r) (sym far.0))
