use Rattle.ring_rules.proofs.Common.{◌<◌, length, arith}
use Rattle.ring_rules.proofs.FoundPlaces.{named_more, rest_less}
use Rattle.ring_rules.proofs.index.name_places.Goals as goal

pub loop-n-preserved : goal.loop-n-preserved
loop-n-preserved c =
    let inside : c.loop-n.n < length c.loop-n.found = omega (arith, c.loop-n-test.true, c.loop-n.auto.found) in
    record {
      done = named_more c.args.spots.now c.args.found.now c.loop-n.found c.loop-n.n c.place.result c.place.ensures inside c.loop-n.invariant.rest c.loop-n.invariant.done;
      rest = rest_less c.args.spots.now c.args.found.now c.loop-n.found c.loop-n.n c.place.result c.place.ensures inside c.loop-n.invariant.rest;
    }
