use Rattle.ring_rules.proofs.Common.{cell_of, AreSpotted}
use Rattle.ring_rules.proofs.spots.push_cells.Given as goal

-- the cells so far have their spots
abbrev pub invariant-loop-cell : goal.invariant-loop-cell
invariant-loop-cell l = AreSpotted (cell_of l.chains.x l.chains.y) l.holes l.cell l.starts.items l.spots
