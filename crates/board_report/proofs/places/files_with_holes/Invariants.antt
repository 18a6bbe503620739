use Rattle.board_report.proofs.Common.{◌≡◌, AreFileHoles, holes_before}
use Rattle.board_report.proofs.places.files_with_holes.Given as goal

abbrev pub invariant-loop-drill : goal.invariant-loop-drill
invariant-loop-drill l = record {
  start : l.start ≡ holes_before l.board.files l.drill;
  with_holes : AreFileHoles l.board.files l.drill l.with_holes.items;
}
