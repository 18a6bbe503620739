use Rattle.ring_rules.proofs.Common.{ℕ, List, arith, Spot}
use Rattle.ring_rules.proofs.AddedClashes.{adds_none, adds_both, lists_clashes_more}
use Rattle.ring_rules.proofs.near.add_all_pairs.Goals as goal

pub loop-i-init : goal.loop-i-init
loop-i-init c = record { adds = adds_none c.args.rules.gap c.args.cells.now.spots c.args.pairs.now.items; found = λ j h. absurd (omega (arith, h)) }

pub loop-i-preserved : goal.loop-i-preserved
loop-i-preserved c =
    let now : List (ℕ × ℕ) = c.add_near.new.pairs.items in
    let spots : List Spot = c.args.cells.now.spots in
    record {
      adds = adds_both c.args.rules.gap spots c.args.pairs.now.items c.loop-i.pairs.items now c.loop-i.invariant.adds c.in_ok-add_near.ensures.adds;
      found = lists_clashes_more c.args.rules.gap spots c.loop-i.i c.loop-i.pairs.items now c.in_ok-add_near.ensures.adds c.loop-i.invariant.found c.in_ok-add_near.ensures.found;
    }

pub add_near-requires-clause-limits : goal.add_near-requires-clause-limits
add_near-requires-clause-limits c = c.requires.limits

pub returns-clause-found : goal.returns-clause-found
returns-clause-found c = λ i h. c.loop-i.invariant.found i (omega (arith, h, c.loop-i-test.false, c.len-i-end.ensures))
