-- A comment or an attribute more was met.
use Rattle.layer_features.proofs.Common.{◌∙◌}
use Rattle.gerber_text.specs.FastPath.{text_command}
use Rattle.layer_features.proofs.CopperLemmas.{idle_met, text_idle, text_state}
use Rattle.layer_features.proofs.copper.Copper.take_text.Goals as goal

pub returns : goal.returns
returns c keep taken commands kind text met is =
    let cleared = c.clear_by_copies.ensures in
    idle_met c.args.state.now keep taken c.args.self.now c.clear_by_copies.new.self commands (text_command kind text) c.clear_by_copies.result (text_idle kind text) met is cleared.kept cleared.rows
    (λ next. cleared.state next ∙ text_state next c.args.self.now kind text) cleared.parts cleared.asked
