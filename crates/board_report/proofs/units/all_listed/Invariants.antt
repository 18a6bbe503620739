use Rattle.board_report.proofs.Common.{AreUnitMistakes}
use Rattle.board_report.proofs.units.all_listed.Given as goal

abbrev pub invariant-loop-line : goal.invariant-loop-line
invariant-loop-line l = AreUnitMistakes l.board l.line-index l.lines.items
