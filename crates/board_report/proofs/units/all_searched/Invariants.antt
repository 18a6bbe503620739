use Rattle.board_report.proofs.Common.{◌≡◌, holes_before, AreSearched}
use Rattle.board_report.proofs.units.all_searched.Given as goal

abbrev pub invariant-loop-drill : goal.invariant-loop-drill
invariant-loop-drill l = record {
  start : l.start ≡ holes_before l.board.files l.drill;
  searched : AreSearched l.board l.drill l.searched.items;
}
