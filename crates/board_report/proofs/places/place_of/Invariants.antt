use Rattle.board_report.proofs.Common.{◌≡◌, ◌≤◌, holes_before}
use Rattle.board_report.proofs.places.place_of.Given as goal

abbrev pub invariant-loop-drill : goal.invariant-loop-drill
invariant-loop-drill l = (l.start ≡ holes_before l.board.files l.drill) × (l.start ≤ l.hole)
