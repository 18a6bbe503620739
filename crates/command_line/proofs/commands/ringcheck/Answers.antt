use Rattle.command_line.proofs.Common.{◌≡◌, ◌∙◌, ap, ap₂, refl, true, IfOk-weaker, App, both, with_subcommand}
use Rattle.clap.specs.Words.{AddsSubcommand, app_of}
use Rattle.clap.specs.declared.builder.command.Command.{Command}
use Rattle.clap.proofs.SimpleLemmas.{is_false}
use Rattle.command_line.specs.ProgramArgs.{certify_app, check_app, draw_app, explain_app, manifest_app, measure_app, report_app, rewrite_app, show_app, verify_app}
use Rattle.command_line.proofs.commands.ringcheck.Goals as goal

-- a command of this plain definition is one more of a program
one_more : (old sub new : Command) (before app : App) → AddsSubcommand old sub new → app_of old ≡ before → app_of sub ≡ app → app.top.is_plain ≡ true → app_of new ≡ with_subcommand before app.top
one_more old sub new before app adds was is plain =
    let local = is_false _ (both _ _ (both _ _ (both _ _ (ap (λ (a : App). a.top.is_plain) is ∙ plain)).1).1).0 in
    adds.shape local ∙ ap₂ with_subcommand was (ap (λ (a : App). a.top) is)

pub returns : goal.returns
returns c =
    let one = one_more _ _ _ _ check_app c.in_ok-subcommand.ensures c.program.ensures c.in_ok-check.ensures refl in
    let two = one_more _ _ _ _ report_app c.in_ok-subcommand-2.ensures one c.in_ok-report.ensures refl in
    let three = one_more _ _ _ _ measure_app c.in_ok-subcommand-3.ensures two c.in_ok-measure.ensures refl in
    let four = one_more _ _ _ _ draw_app c.in_ok-subcommand-4.ensures three c.in_ok-draw.ensures refl in
    let five = one_more _ _ _ _ certify_app c.in_ok-subcommand-5.ensures four c.in_ok-certify.ensures refl in
    let six = one_more _ _ _ _ verify_app c.in_ok-subcommand-6.ensures five c.in_ok-verify.ensures refl in
    let seven = one_more _ _ _ _ manifest_app c.in_ok-subcommand-7.ensures six c.in_ok-manifest.ensures refl in
    let eight = one_more _ _ _ _ explain_app c.in_ok-subcommand-8.ensures seven c.in_ok-explain.ensures refl in
    let nine = one_more _ _ _ _ show_app c.in_ok-subcommand-9.ensures eight c.in_ok-show.ensures refl in
    IfOk-weaker c.subcommand-10.result _ _ (λ new adds. one_more _ _ new _ rewrite_app adds nine c.in_ok-rewrite.ensures refl) c.subcommand-10.ensures
