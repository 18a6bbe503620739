use Rattle.ring_rules.proofs.Common.{length, cell_at}
use Rattle.ring_rules.proofs.ChainLemmas.{cell_inside}
use Rattle.ring_rules.proofs.SpotLemmas.{in_cells, spots_of}
use Rattle.ring_rules.proofs.spots.spotted.Goals as goal

pub returns-clause-cells : goal.returns-clause-cells
returns-clause-cells c = in_cells c.args.chains.x c.args.chains.y c.args.holes.now (length c.args.chains.head.items) c.push_cells.new.starts.items c.push_cells.new.spots c.in_ok-push_cells.ensures c.requires.count c.requires.fits

pub returns-clause-listed : goal.returns-clause-listed
returns-clause-listed c =
    spots_of c.args.chains.x c.args.chains.y c.args.holes.now (length c.args.chains.head.items) c.push_cells.new.starts.items c.push_cells.new.spots c.in_ok-push_cells.ensures
    (cell_inside (cell_at c.args.chains.x c.args.chains.y c.args.holes.now) (length c.args.holes.now) c.args.chains.head.items c.args.chains.next.items c.requires.chained)
