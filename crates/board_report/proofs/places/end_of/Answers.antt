use Rattle.board_report.proofs.Common.{length, ap, arith}
use Rattle.board_report.proofs.HolePlacesLemmas.{start_in}
use Rattle.board_report.proofs.places.end_of.Goals as goal

pub overflow_sub-rest : goal.overflow_sub-rest
overflow_sub-rest c =
    let low = start_in c.args.board.now.files c.args.board.now.holes c.args.drill c.args.start c.files-files.ensures.counted c.requires.starts in
    omega (arith, low, ap length c.holes.ensures)
