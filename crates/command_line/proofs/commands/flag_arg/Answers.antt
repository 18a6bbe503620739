use Rattle.command_line.proofs.Common.{◌∙◌, ap, Some, Rule, rule_of}
use Rattle.clap.specs.declared.builder.action.ArgAction.TheVariants.{SetTrue}
use Rattle.command_line.proofs.commands.flag_arg.Goals as goal

pub returns-clause-rule : goal.returns-clause-rule
returns-clause-rule c =
    ap rule_of c.help.ensures
    ∙ ap rule_of c.action.ensures
    ∙ ap (λ (r : Rule). record r { action = Some SetTrue }) (ap rule_of c.long.ensures ∙ ap (λ (r : Rule). record r { long = Some c.args.id.now }) c.new.ensures.rule)
