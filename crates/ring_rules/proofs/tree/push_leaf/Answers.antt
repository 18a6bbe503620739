use Rattle.ring_rules.proofs.Common.{◌≡◌, ◌+◌, length, sym, subst, ◌∙◌, arith, AreNodes, Node}
use Rattle.ring_rules.proofs.TreeLemmas.{nodes_pushed}
use Rattle.ring_rules.proofs.tree.push_leaf.Goals as goal

pub returns-clause-nodes : goal.returns-clause-nodes
returns-clause-nodes c =
    let node : Node = record { run = c.args.run; zone = c.zone_of-zone.result; end = c.len-at.result + 1 } in
    let last : length c.args.nodes.now.items ≡ c.len-at.result = sym (c.len-at.ensures ∙ c.args.nodes.now.ok.0) in
    subst (AreNodes c.args.cells.now.spots) (sym c.in_ok-push.ensures.items)
    (nodes_pushed c.args.cells.now.spots c.args.nodes.now.items c.len-at.result node c.requires.nodes (record { within = c.requires.within; more = omega arith; holds = c.zone_of-zone.ensures }) last)
