use Rattle.command_line.proofs.Common.{◌∙◌, ap, true, App}
use Rattle.clap.specs.Simple.{app_of_fields}
use Rattle.command_line.proofs.commands.program.Goals as goal

pub returns : goal.returns
returns c =
    ap app_of_fields c.subcommand_required.ensures
    ∙ ap (λ f. app_of_fields (record f { subcommand_required = true })) c.no_binary_name.ensures
    ∙ ap (λ f. app_of_fields (record f { no_binary_name = true; subcommand_required = true })) c.version.ensures
    ∙ ap (λ (a : App). record a { top = record a.top { no_binary_name = true; subcommand_required = true; has_version = true } }) c.new_command.ensures
