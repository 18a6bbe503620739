use Rattle.macro_shapes.proofs.Common.{◌≡◌, drop, fold, edges_back, line_along, least, discs_in_turn}
use Rattle.macro_shapes.proofs.shape.border.Given as goal

abbrev pub invariant-loop-to : goal.invariant-loop-to
invariant-loop-to l =
    fold (λ found e. least found (line_along l.primitives e)) l.found (edges_back l.fn.first l.from (drop l.to-index l.others))
    ≡ fold (λ found e. least found (line_along l.primitives e)) (discs_in_turn l.primitives (record { first = l.fn.first; others = l.others; radius = 0 })) (edges_back l.fn.first l.fn.first l.others)
