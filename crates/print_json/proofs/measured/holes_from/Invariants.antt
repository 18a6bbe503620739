use Rattle.print_json.proofs.Common.{◌≡◌, drop}
use Rattle.board.specs.Boards.{holes_before}
use Rattle.print_json.proofs.measured.holes_from.Given as goal

abbrev pub invariant-loop-before : goal.invariant-loop-before
invariant-loop-before l = l.rest ≡ drop (holes_before l.files l.before) l.holes
