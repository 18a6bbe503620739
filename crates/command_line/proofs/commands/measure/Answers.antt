use Rattle.command_line.proofs.Common.{◌∙◌, ap₂, IfOk-weaker, with_rule}
use Rattle.command_line.proofs.commands.measure.Goals as goal

pub returns : goal.returns
returns c =
    let profile = c.in_ok-arg.ensures.shape c.profile_arg.ensures.global ∙ ap₂ with_rule c.new_command.ensures c.profile_arg.ensures.rule in
    let format = c.in_ok-arg-2.ensures.shape c.optional_option_arg.ensures.global ∙ ap₂ with_rule profile c.optional_option_arg.ensures.rule in
    let folder = c.in_ok-arg-3.ensures.shape c.folder_arg.ensures.global ∙ ap₂ with_rule format c.folder_arg.ensures.rule in
    IfOk-weaker c.arg-4.result _ _ (λ x h. h.shape c.required_arg.ensures.global ∙ ap₂ with_rule folder c.required_arg.ensures.rule) c.arg-4.ensures
