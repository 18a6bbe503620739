use Rattle.command_line.proofs.Common.{◌∙◌, ap₂, IfOk-weaker, with_rule}
use Rattle.command_line.proofs.commands.verify.Goals as goal

pub returns : goal.returns
returns c =
    let folder = c.in_ok-arg.ensures.shape c.folder_arg.ensures.global ∙ ap₂ with_rule c.new_command.ensures c.folder_arg.ensures.rule in
    IfOk-weaker c.arg-2.result _ _ (λ x h. h.shape c.required_arg.ensures.global ∙ ap₂ with_rule folder c.required_arg.ensures.rule) c.arg-2.ensures
