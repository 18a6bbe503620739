-- The command breaks no rule, so the state that took it in knows one command more.
use Rattle.drill_text.proofs.Common.{◌≡◌, None, ◌∙◌, option_or, broken_in, own_in}
use Rattle.drill_text.proofs.Lookbacks.{knows_more, rule_is}
use Rattle.drill_text.proofs.HoleLines.{not_changed}
use Rattle.drill_text.proofs.state.DrillState.apply_checked.Goals as goal

pub returns : goal.returns
returns c kind before is_state =
    let state = c.args.self.now in
    let what = c.args.command.now in
    let legal : broken_in state what ≡ None = cc (c.broken_rule.ensures, c.in_default.is) in
    let own : own_in state what ≡ None = cc (c.own_rule.ensures, c.in_default-own_rule.is) in
    (rule_is state kind before what is_state ∙ (λ i. option_or (legal i) (own i)), knows_more state _ kind before what is_state (not_changed _ _ _ _ what legal) c.in_ok-take.ensures)
