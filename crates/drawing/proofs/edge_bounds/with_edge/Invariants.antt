use Rattle.drawing.proofs.Common.{◌≡◌, take, flat_map, fold, edge_extents, joined_to}
use Rattle.drawing.proofs.edge_bounds.with_edge.Given as goal

abbrev pub invariant-loop-part : goal.invariant-loop-part
invariant-loop-part l = l.all ≡ fold joined_to l.fn.before (flat_map edge_extents (take l.part-index l.outline))
