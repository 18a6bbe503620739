use Rattle.drill_text.proofs.Common.{◌∙◌, Some, List, DrillCommand, arith, ap, refl, checked_all, checked_by, err_from_is_err_and, hit_on, rule_in, with_place}
use Rattle.drill_text.proofs.ProfileLemmas.{at_ok}
use Rattle.drill_text.proofs.RepeatLemmas.{hits_follow, next_left, next_refused, none_left}
use Rattle.drill_text.proofs.reader.keep_all.Goals as goal

pub loop-left-init : goal.loop-left-init
loop-left-init c kind keep before has_read = record { now = before; has_read = has_read; rest = refl }

pub loop-left-preserved : goal.loop-left-preserved
loop-left-preserved c kind keep before has_read =
    let k = c.loop-left.invariant kind keep before has_read in
    let rule = rule_in kind.profile kind.plating in
    let step = c.args.repeat.step in
    let r = c.in_ok-keep_next.ensures kind keep k.now k.has_read in
    record {
      now = r.0;
      has_read = r.2;
      rest = k.rest ∙ next_left rule k.now r.0 step c.loop-left.left (omega (arith, c.loop-left-test.true)) (at_ok c.args.place c.args.byte (checked_by rule k.now (Some (hit_on k.now step 1))) r.0 r.1);
    }

pub returns : goal.returns
returns c kind keep before has_read =
    let k = c.loop-left.invariant kind keep before has_read in
    let rule = rule_in kind.profile kind.plating in
    let step = c.args.repeat.step in (
      k.now,
      ap (with_place c.args.place c.args.byte) (ap (λ (hits : List DrillCommand). checked_all rule before hits) (hits_follow before step c.args.repeat.count) ∙ (k.rest ∙ none_left rule k.now step c.loop-left.left (omega (arith, c.loop-left-test.false)))),
      k.has_read,
    )

pub returns-in_err-keep_next : goal.returns-in_err-keep_next
returns-in_err-keep_next c kind keep before has_read =
    let k = c.loop-left.invariant kind keep before has_read in
    let rule = rule_in kind.profile kind.plating in
    let step = c.args.repeat.step in
    let e = c.in_err-keep_next.field-0.0 in
    let p = err_from_is_err_and c.from_residual.result c.from_residual.ensures.1 in
    rw (p.1, p.2) (next_refused c.args.place c.args.byte rule _ k.now step c.loop-left.left e (omega (arith, c.loop-left-test.true)) (ap (λ (hits : List DrillCommand). checked_all rule before hits) (hits_follow before step c.args.repeat.count) ∙ k.rest) (c.in_err-keep_next.ensures kind keep k.now k.has_read))
