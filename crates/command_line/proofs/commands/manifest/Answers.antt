use Rattle.command_line.proofs.Common.{◌∙◌, ap₂, IfOk-weaker, with_rule}
use Rattle.command_line.proofs.commands.manifest.Goals as goal

pub returns : goal.returns
returns c =
    let why = c.in_ok-arg.ensures.shape c.flag_arg.ensures.global ∙ ap₂ with_rule c.new_command.ensures c.flag_arg.ensures.rule in
    let profile = c.in_ok-arg-2.ensures.shape c.optional_option_arg.ensures.global ∙ ap₂ with_rule why c.optional_option_arg.ensures.rule in
    let folder = c.in_ok-arg-3.ensures.shape c.folder_arg.ensures.global ∙ ap₂ with_rule profile c.folder_arg.ensures.rule in
    IfOk-weaker c.arg-4.result _ _ (λ x h. h.shape c.repeated_arg.ensures.global ∙ ap₂ with_rule folder c.repeated_arg.ensures.rule) c.arg-4.ensures
