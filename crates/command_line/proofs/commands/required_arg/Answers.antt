use Rattle.command_line.proofs.Common.{◌∙◌, ap, true, Rule, rule_of}
use Rattle.command_line.proofs.commands.required_arg.Goals as goal

pub returns-clause-rule : goal.returns-clause-rule
returns-clause-rule c = ap rule_of c.required.ensures ∙ ap (λ (r : Rule). record r { required = true }) c.optional_arg.ensures.rule
