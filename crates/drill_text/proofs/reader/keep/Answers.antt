use Rattle.drill_text.proofs.Common.{◌≡◌, [], ◌∷◌, ◌++◌, Some, Err, sym, ◌∙◌, subst, IfFault, with_place, ItemFail, rule_in, checked_by, AppliesOrRefuses}
use Rattle.drill_text.proofs.RepeatLemmas.{ends_more}
use Rattle.drill_text.proofs.SpelledLemmas.{checked_kept, checked_broken}
use Rattle.drill_text.proofs.reader.keep.Goals as goal

pub returns-in-Ok : goal.returns-in-Ok
returns-in-Ok c kind keep before has_read =
    let k = c.in-Ok.ensures kind before has_read.is_state in (
      before ++ c.args.command ∷ [],
      checked_kept kind before c.args.place c.args.byte c.args.command k.0,
      record { is_state = k.1; keeps = c.in_ok-add-in-Ok.ensures.keeps keep before has_read.keeps; after_hit = c.in_ok-add-in-Ok.ensures.hit ∙ sym (ends_more before c.args.command) },
    )

pub returns : goal.returns
returns c kind keep before has_read =
    subst (IfFault (λ f. with_place c.args.place c.args.byte (checked_by (rule_in kind.profile kind.plating) before (Some c.args.command)) ≡ Err f)) (sym c.refusal.ensures)
    (checked_broken kind before c.args.place c.args.byte c.args.command c.in-Err-Refused.reason (subst (λ (e : ItemFail). AppliesOrRefuses kind before c.args.command c.step.new.self (Err e)) c.in-Err-Refused.field-0-is (c.in-Err-Refused.ensures kind before has_read.is_state)))
