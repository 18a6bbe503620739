use Rattle.command_line.proofs.Common.{◌∙◌, ap₂, IfOk-weaker, with_rule}
use Rattle.command_line.proofs.commands.report.Goals as goal

pub returns : goal.returns
returns c =
    let ring = c.in_ok-arg.ensures.shape c.ring_arg.ensures.global ∙ ap₂ with_rule c.new_command.ensures c.ring_arg.ensures.rule in
    let gap = c.in_ok-arg-2.ensures.shape c.gap_arg.ensures.global ∙ ap₂ with_rule ring c.gap_arg.ensures.rule in
    let off = c.in_ok-arg-3.ensures.shape c.optional_option_arg.ensures.global ∙ ap₂ with_rule gap c.optional_option_arg.ensures.rule in
    let wide = c.in_ok-arg-4.ensures.shape c.optional_option_arg-2.ensures.global ∙ ap₂ with_rule off c.optional_option_arg-2.ensures.rule in
    let profile = c.in_ok-arg-5.ensures.shape c.optional_option_arg-3.ensures.global ∙ ap₂ with_rule wide c.optional_option_arg-3.ensures.rule in
    let limit = c.in_ok-arg-6.ensures.shape c.optional_option_arg-4.ensures.global ∙ ap₂ with_rule profile c.optional_option_arg-4.ensures.rule in
    let waive = c.in_ok-arg-7.ensures.shape c.optional_option_arg-5.ensures.global ∙ ap₂ with_rule limit c.optional_option_arg-5.ensures.rule in
    let outline = c.in_ok-arg-8.ensures.shape c.optional_option_arg-6.ensures.global ∙ ap₂ with_rule waive c.optional_option_arg-6.ensures.rule in
    let format = c.in_ok-arg-9.ensures.shape c.optional_option_arg-7.ensures.global ∙ ap₂ with_rule outline c.optional_option_arg-7.ensures.rule in
    let exit_zero = c.in_ok-arg-10.ensures.shape c.flag_arg.ensures.global ∙ ap₂ with_rule format c.flag_arg.ensures.rule in
    let folder = c.in_ok-arg-11.ensures.shape c.folder_arg.ensures.global ∙ ap₂ with_rule exit_zero c.folder_arg.ensures.rule in
    IfOk-weaker c.arg-12.result _ _ (λ x h. h.shape c.required_arg.ensures.global ∙ ap₂ with_rule folder c.required_arg.ensures.rule) c.arg-12.ensures
