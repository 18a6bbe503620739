use Rattle.ring_rules.proofs.Common.{ℕ, List, Spot}
use Rattle.ring_rules.proofs.FoundPlaces.{found_both, listed_row}
use Rattle.ring_rules.proofs.index.add_rows.Goals as goal

pub loop-row-preserved : goal.loop-row-preserved
loop-row-preserved c =
    let now : List ℕ = c.add_tree.new.found.items in
    let spots : List Spot = c.args.cells.now.spots in
    record {
      adds = found_both spots c.args.zone.now c.args.found.now.items c.loop-row.found.items now c.loop-row.invariant.adds c.in_ok-add_tree.ensures.adds;
      listed = listed_row spots c.args.zone.now c.loop-row.found.items now c.in_ok-add_tree.ensures.adds c.args.cells.now.x c.args.cells.now.y c.args.region.top c.loop-row.row c.args.region.left c.args.region.right c.loop-row.invariant.listed
          (λ i h inside. let within = c.run-run.ensures.holds i h inside in c.in_ok-add_tree.ensures.listed i within.0 within.1);
    }
