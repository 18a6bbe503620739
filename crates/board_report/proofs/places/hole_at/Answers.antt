use Rattle.board_report.proofs.Common.{List, get_or, ap, ◌∙◌, get_or_default, default_hole, Drilled}
use Rattle.board_report.proofs.places.hole_at.Goals as goal

pub place_among-requires : goal.place_among-requires
place_among-requires c = (c.args.board.now, c.requires.files, c.requires.place)

pub returns : goal.returns
returns c =
    let drilled = c.index-holes-place.result in
    record {
      stands = c.place_among.ensures c.args.board.now c.requires.files;
      hole = ap (λ (holes : List Drilled). (get_or holes c.args.place drilled).hole) c.holes.ensures ∙ ap (λ (d : Drilled). d.hole) (get_or_default c.args.board.now.holes c.args.place drilled default_hole c.requires.place);
    }
