use Rattle.ring_rules.proofs.Common.{ℕ, ◌<◌, List, length, subst, ◌∙◌, arith, get_or_default, ListsClash}
use Rattle.ring_rules.proofs.AddedClashes.{adds_both, lists_clash_of_more}
use Rattle.ring_rules.proofs.clashes.add_pairs.Goals as goal

pub loop-other-preserved : goal.loop-other-preserved
loop-other-preserved c =
    let now : List (ℕ × ℕ) = c.add_pair.new.pairs.items in
    record {
      adds = adds_both c.args.rules.gap c.args.spots.now c.args.pairs.now.items c.loop-other.pairs.items now c.loop-other.invariant.adds c.in_ok-add_pair.ensures.adds;
      found = lists_clash_of_more c.args.rules.gap c.args.spots.now c.args.i c.args.others.now c.loop-other.other-index c.loop-other.pairs.items now c.in_ok-add_pair.ensures.adds c.loop-other.invariant.found c.in_ok-add_pair.ensures.found;
    }

pub returns-clause-found : goal.returns-clause-found
returns-clause-found c j among =
    let inside : among.0 < length c.args.others.now = among.1 in
    subst (λ (n : ℕ). ListsClash c.args.rules.gap c.args.spots.now c.args.i n c.loop-other.pairs.items) (get_or_default c.args.others.now among.0 0 j inside ∙ among.2)
    (c.loop-other.invariant.found among.0 (omega (arith, inside, c.loop-other-test.false)))
