use Rattle.drill_text.proofs.Common.{◌≡◌, Err, Result, Reason, Repeat, sym, subst, ap, IfFault, checked_repeat, rule_in, with_place, ResultsIn}
use Rattle.drill_text.proofs.reader.keep_repeat.Goals as goal

pub returns-in-Ok : goal.returns-in-Ok
returns-in-Ok c kind keep before has_read =
    subst (λ (r : Result Repeat Reason). ResultsIn c.keep_all.result c.keep_all.new.state c.keep_all.new.kept kind keep (with_place c.args.place c.args.byte (checked_repeat (rule_in kind.profile kind.plating) before r))) (sym c.in-Ok.is) (c.keep_all.ensures kind keep before has_read)

pub returns-in-Err : goal.returns-in-Err
returns-in-Err c kind keep before has_read =
    subst (IfFault (λ f. with_place c.args.place c.args.byte (checked_repeat (rule_in kind.profile kind.plating) before c.args.read) ≡ Err f)) (sym c.refusal.ensures) (ap (λ (r : Result Repeat Reason). with_place c.args.place c.args.byte (checked_repeat (rule_in kind.profile kind.plating) before r)) c.in-Err.is)
