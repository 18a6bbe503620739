use Rattle.command_line.proofs.Common.{◌∙◌, ap₂, IfOk-weaker, with_rule}
use Rattle.command_line.proofs.commands.rewrite.Goals as goal

pub returns : goal.returns
returns c =
    let kind = c.in_ok-arg.ensures.shape c.required_option_arg.ensures.global ∙ ap₂ with_rule c.new_command.ensures c.required_option_arg.ensures.rule in
    let folder = c.in_ok-arg-2.ensures.shape c.folder_arg.ensures.global ∙ ap₂ with_rule kind c.folder_arg.ensures.rule in
    IfOk-weaker c.arg-3.result _ _ (λ x h. h.shape c.required_arg.ensures.global ∙ ap₂ with_rule folder c.required_arg.ensures.rule) c.arg-3.ensures
