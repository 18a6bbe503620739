-- The interpolation comes first, and changes nothing of what is said last.
use Rattle.layer_features.proofs.Common.{◌++◌, ◌∙◌}
use Rattle.gerber_commands.specs.Rows.{modes_of}
use Rattle.layer_features.proofs.CopperLemmas.{same_with_mode}
use Rattle.layer_features.proofs.copper.Copper.operate.Goals as goal

pub returns-then-is_plain : goal.returns-then-is_plain
returns-then-is_plain c keep taken commands met is own =
    let mode = c.args.operation.now.mode in
    c.add_operation.ensures keep taken (commands ++ modes_of mode) (c.in_ok-take_mode.ensures keep taken commands met (is.current ∙ same_with_mode commands mode)) is own

pub returns : goal.returns
returns c keep taken commands met is own =
    let mode = c.args.operation.now.mode in
    c.take.ensures keep taken (commands ++ modes_of mode) (c.in_ok-take_mode.ensures keep taken commands met (is.current ∙ same_with_mode commands mode)) is own
