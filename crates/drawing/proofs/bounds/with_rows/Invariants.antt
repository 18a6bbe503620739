use Rattle.drawing.proofs.Common.{◌≡◌, take, flat_map, fold, cross_extent, joined_to}
use Rattle.drawing.proofs.bounds.with_rows.Given as goal

abbrev pub invariant-loop-row : goal.invariant-loop-row
invariant-loop-row l = l.all ≡ fold joined_to l.fn.before (flat_map cross_extent (take l.row-index l.rows))
