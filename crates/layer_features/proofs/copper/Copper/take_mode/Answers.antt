-- A mode makes no flash and draws nothing.
use Rattle.layer_features.proofs.Common.{◌++◌, Option, OnOk, append-nil, subst, sym}
use Rattle.gerber_commands.specs.Rows.{modes_of}
use Rattle.gerber_commands.specs.declared.command.Command.TheVariants.{Mode}
use Rattle.gerber_commands.specs.declared.command.Interpolation.{Interpolation}
use Rattle.layer_features.specs.CopperHolding.{HasMet}
use Rattle.layer_features.proofs.CopperLemmas.{idle_met, mode_idle}
use Rattle.layer_features.proofs.copper.Copper.take_mode.Goals as goal

pub returns-in_default : goal.returns-in_default
returns-in_default c keep taken commands met is =
    subst (λ (m : Option Interpolation). HasMet keep taken c.args.self.now (commands ++ modes_of m)) (sym c.in_default.is) (subst (HasMet keep taken c.args.self.now) (sym (append-nil commands)) met)

pub returns : goal.returns
returns c keep taken commands met is =
    let cleared = c.clear_by_copies.ensures in
    subst (λ (m : Option Interpolation). OnOk c.clear_by_copies.result (HasMet keep taken c.clear_by_copies.new.self (commands ++ modes_of m))) (sym c.in-Some.is)
    (idle_met c.args.state.now keep taken c.args.self.now c.clear_by_copies.new.self commands (Mode c.in-Some.mode) c.clear_by_copies.result (mode_idle c.in-Some.mode) met is cleared.kept cleared.rows cleared.state cleared.parts cleared.asked)
