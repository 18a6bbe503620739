use Rattle.command_line.proofs.Common.{◌∙◌, ap, Some, Rule, rule_of}
use Rattle.clap.specs.declared.builder.action.ArgAction.TheVariants.{Set}
use Rattle.command_line.proofs.commands.optional_arg.Goals as goal

pub returns-clause-rule : goal.returns-clause-rule
returns-clause-rule c =
    ap rule_of c.help.ensures
    ∙ ap rule_of c.value_name.ensures
    ∙ ap (λ (r : Rule). record r { value_names = 1 }) (ap rule_of c.action.ensures ∙ ap (λ (r : Rule). record r { action = Some Set }) c.new.ensures.rule)
