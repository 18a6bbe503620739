-- The run moves on from its first point.
use Rattle.macro_shapes.proofs.Common.{◌∙◌, List, length, ap, nat_lt, GridPoint}
use Rattle.macro_shapes.proofs.RunsOfPoints.{many_either_way, moves_from_own_first}
use Rattle.macro_shapes.proofs.outline.has_many_stops.Goals as goal

pub returns-in-len1-up : goal.returns-in-len1-up
returns-in-len1-up c =
    let run = c.args.run.now in
    c.has_many_moves.ensures ∙ ap (λ (l : List GridPoint). nat_lt 256 (length l)) (moves_from_own_first run c.first-item.result c.first-item.is) ∙ many_either_way run
