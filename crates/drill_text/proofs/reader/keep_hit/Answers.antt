use Rattle.drill_text.proofs.Common.{◌≡◌, [], ◌∷◌, ◌++◌, Some, Err, sym, ◌∙◌, subst, IfFault, with_place, ItemFail, Hit, rule_in, checked_by, AppliesOrRefuses}
use Rattle.drill_text.proofs.RepeatLemmas.{ends_more}
use Rattle.drill_text.proofs.SpelledLemmas.{checked_kept, checked_broken}
use Rattle.drill_text.proofs.reader.keep_hit.Goals as goal

pub returns-in_ok-add_hit-in-Ok : goal.returns-in_ok-add_hit-in-Ok
returns-in_ok-add_hit-in-Ok c kind keep before has_read =
    let k = c.in-Ok.ensures kind before has_read.is_state in (
      before ++ Hit c.args.point ∷ [],
      checked_kept kind before c.args.place c.args.byte (Hit c.args.point) k.0,
      record { is_state = k.1; keeps = c.in_ok-add_hit-in-Ok.ensures.keeps keep before has_read.keeps; after_hit = c.in_ok-add_hit-in-Ok.ensures.hit ∙ sym (ends_more before (Hit c.args.point)) },
    )

pub returns-in-Err-Refused : goal.returns-in-Err-Refused
returns-in-Err-Refused c kind keep before has_read =
    subst (IfFault (λ f. with_place c.args.place c.args.byte (checked_by (rule_in kind.profile kind.plating) before (Some (Hit c.args.point))) ≡ Err f)) (sym c.refusal.ensures)
    (rw c.in-Err-Refused.field-0-is (checked_broken kind before c.args.place c.args.byte (Hit c.args.point) c.in-Err-Refused.reason (subst (λ (e : ItemFail). AppliesOrRefuses kind before (Hit c.args.point) c.step_hit.new.self (Err e)) c.in-Err-Refused.field-0-is (c.in-Err-Refused.ensures kind before has_read.is_state))))
