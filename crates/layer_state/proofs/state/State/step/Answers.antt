-- The command breaks no rule, so the judge that took it in knows one command more.
use Rattle.layer_state.proofs.Common.{◌≡◌, sym, ◌∙◌, None, Some, first_broken, flash_count, is_allowed_again, state_of}
use Rattle.layer_state.proofs.StateLemmas.{state_after_one_more, same_rule}
use Rattle.layer_state.proofs.state.State.step.Goals as goal

pub returns-in-Some-clause-judges : goal.returns-in-Some-clause-judges
returns-in-Some-clause-judges c =
    let broken : first_broken (is_allowed_again c.args.self.now.apertures c.args.command.now) (state_of c.args.self.now) (flash_count c.args.self.now.flashes) c.args.command.now ≡ Some c.in-Some.reason = cc (c.broken_rule.ensures, c.in-Some.is) in
    λ parts before is_state. sym (same_rule _ parts before _ is_state) ∙ broken

pub returns-clause-judges : goal.returns-clause-judges
returns-clause-judges c =
    let legal : first_broken (is_allowed_again c.args.self.now.apertures c.args.command.now) (state_of c.args.self.now) (flash_count c.args.self.now.flashes) c.args.command.now ≡ None = cc (c.broken_rule.ensures, c.in_default.is) in
    λ parts before is_state. (sym (same_rule _ parts before _ is_state) ∙ legal, state_after_one_more _ _ parts before _ is_state c.in_ok-take.ensures)
