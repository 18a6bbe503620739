use Rattle.board_report.proofs.UnitMistakeLinesLemmas.{searched_more}
use Rattle.board_report.proofs.units.all_searched.Goals as goal

pub loop-drill-preserved : goal.loop-drill-preserved
loop-drill-preserved c = record {
  start = c.end_of-end.ensures.ends;
  searched = searched_more c.args.board.now c.loop-drill.drill c.loop-drill.searched.items c.push.new.self.items c.searched_holes.result c.in_ok-push.ensures.items c.searched_holes.ensures c.loop-drill.invariant.searched;
}
