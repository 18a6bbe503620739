use Rattle.board_report.proofs.MeasuresLemmas.{measure_passes}
use Rattle.board_report.proofs.measure.measure_board.Goals as goal

pub returns-clause-passes : goal.returns-clause-passes
returns-clause-passes c = measure_passes c.rings_pass.ensures c.gaps_pass.ensures c.args.profile c.args.board.now c.in_ok-measure.measure c.in_ok-measure.ensures.exact
