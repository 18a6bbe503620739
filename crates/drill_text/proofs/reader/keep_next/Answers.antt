use Rattle.drill_text.proofs.Common.{◌≡◌, ◌∙◌, Some, Err, Hit, ap, sym, subst, DrillCommand, IfFault, checked_by, hit_on, rule_in, with_place, ResultsIn}
use Rattle.drill_text.proofs.RepeatLemmas.{next_is, refused_hit}
use Rattle.drill_text.proofs.SpelledLemmas.{checked_broken}
use Rattle.drill_text.proofs.reader.keep_next.Goals as goal

pub returns-in-Ok : goal.returns-in-Ok
returns-in-Ok c kind keep before has_read =
    subst (λ (d : DrillCommand). ResultsIn c.keep_hit.result c.keep_hit.new.state c.keep_hit.new.kept kind keep (with_place c.args.place c.args.byte (checked_by (rule_in kind.profile kind.plating) before (Some d))))
    (ap Hit c.in-Ok.ensures.ok ∙ next_is c.args.state.now kind before c.args.step.now has_read.is_state) (c.keep_hit.ensures kind keep before has_read)

pub returns-in-Err : goal.returns-in-Err
returns-in-Err c kind keep before has_read =
    let hit = hit_on before c.args.step.now 1 in
    let broken = subst (λ (d : DrillCommand). rule_in kind.profile kind.plating before d ≡ Some c.in-Err.reason) (next_is c.args.state.now kind before c.args.step.now has_read.is_state) (refused_hit c.args.state.now kind before _ c.in-Err.reason has_read.is_state c.in-Err.ensures.err) in
    subst (IfFault (λ f. with_place c.args.place c.args.byte (checked_by (rule_in kind.profile kind.plating) before (Some hit)) ≡ Err f)) (sym c.refusal.ensures) (checked_broken kind before c.args.place c.args.byte hit c.in-Err.reason broken)
