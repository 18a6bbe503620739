use Rattle.board_report.proofs.FilesWithHolesLemmas.{placed_in}
use Rattle.board_report.proofs.places.place_among.Goals as goal

pub returns : goal.returns
returns c = λ board are. placed_in board c.args.files.now c.file_of-file.result c.args.hole are c.file_of-file.ensures.among c.file_of-file.ensures.starts c.file_of-file.ensures.ends
