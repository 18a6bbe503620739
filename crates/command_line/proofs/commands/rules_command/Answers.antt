use Rattle.command_line.proofs.Common.{◌∙◌, ap₂, IfOk-weaker, with_rule}
use Rattle.command_line.proofs.commands.rules_command.Goals as goal

pub returns : goal.returns
returns c =
    let ring = c.in_ok-arg.ensures.shape c.ring_arg.ensures.global ∙ ap₂ with_rule c.new_command.ensures c.ring_arg.ensures.rule in
    let gap = c.in_ok-arg-2.ensures.shape c.gap_arg.ensures.global ∙ ap₂ with_rule ring c.gap_arg.ensures.rule in
    let profile = c.in_ok-arg-3.ensures.shape c.profile_arg.ensures.global ∙ ap₂ with_rule gap c.profile_arg.ensures.rule in
    let folder = c.in_ok-arg-4.ensures.shape c.folder_arg.ensures.global ∙ ap₂ with_rule profile c.folder_arg.ensures.rule in
    IfOk-weaker c.arg-5.result _ _ (λ x h. h.shape c.required_arg.ensures.global ∙ ap₂ with_rule folder c.required_arg.ensures.rule) c.arg-5.ensures
