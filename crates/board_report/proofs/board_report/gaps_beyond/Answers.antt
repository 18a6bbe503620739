use Rattle.board_report.proofs.Common.{◌∙◌, sym}
use Rattle.board_report.proofs.board_report.gaps_beyond.Goals as goal

pub returns-then-allows_gap : goal.returns-then-allows_gap
returns-then-allows_gap c = c.new.ensures.items ∙ sym ((c.gaps_pass.ensures c.args.holes.now c.args.met c.requires c.args.rules.gap).1 (c.allows_gap.ensures c.if-allows_gap.true))
