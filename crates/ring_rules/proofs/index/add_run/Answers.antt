use Rattle.ring_rules.proofs.Common.{ℕ, List}
use Rattle.ring_rules.proofs.FoundPlaces.{found_both, listed_more}
use Rattle.ring_rules.proofs.index.add_run.Goals as goal

pub loop-i-preserved : goal.loop-i-preserved
loop-i-preserved c =
    let now : List ℕ = c.add_spot.new.found.items in
    record {
      adds = found_both c.args.spots.now c.args.zone.now c.args.found.now.items c.loop-i.found.items now c.loop-i.invariant.adds c.in_ok-add_spot.ensures.adds;
      listed = listed_more c.args.spots.now c.args.zone.now c.loop-i.found.items now c.in_ok-add_spot.ensures.adds c.args.run.start c.loop-i.i c.loop-i.invariant.listed c.in_ok-add_spot.ensures.listed;
    }
