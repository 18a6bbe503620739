use Rattle.report.proofs.Common.{◌+◌, take, ap, sym, subst, ◌∙◌, Drilled, AreRescaled, IsRescaled}
use Rattle.report.proofs.RescaledCounts.{passed_over, taken_in}
use Rattle.report.proofs.bare.all_rescaled.Goals as goal
use Rattle.report.proofs.bare.all_rescaled.Goals.{in-Some+in_ok-push, in_default}

pub loop-drilled-preserved : goal.loop-drilled-preserved
loop-drilled-preserved c =
    let holes = c.args.holes.now in
    let k = c.loop-drilled.drilled-index in
    let d : Drilled = c.drilled-item.result in
    elim c.match-rescaled.branch [
      | in-Some+in_ok-push w ↦
          taken_in c.args.factor holes k d c.loop-drilled-test.true c.drilled-item.is c.loop-drilled.all.items c.match-rescaled.all.items w.in-Some.hole (subst (IsRescaled c.args.factor d) w.in-Some.is c.rescaled.ensures)
          (ap (λ v. v.items) w.all-is ∙ w.in_ok-push.ensures.items) c.loop-drilled.invariant
      | in_default w ↦
          subst (AreRescaled c.args.factor (take (k + 1) holes)) (sym (ap (λ v. v.items) w.all-is))
          (passed_over c.args.factor holes k d c.loop-drilled-test.true c.drilled-item.is c.loop-drilled.all.items (subst (IsRescaled c.args.factor d) w.in_default.is c.rescaled.ensures) c.loop-drilled.invariant)
    ]
