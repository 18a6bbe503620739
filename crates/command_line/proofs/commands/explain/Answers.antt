use Rattle.command_line.proofs.Common.{◌∙◌, ap₂, IfOk-weaker, with_rule}
use Rattle.command_line.proofs.commands.explain.Goals as goal

pub returns : goal.returns
returns c = IfOk-weaker c.arg.result _ _ (λ x h. h.shape c.optional_arg.ensures.global ∙ ap₂ with_rule c.new_command.ensures c.optional_arg.ensures.rule) c.arg.ensures
