use Rattle.ring_rules.proofs.Common.{◌≡◌, ◌<◌, length, ◌∙◌, arith, Node}
use Rattle.ring_rules.proofs.TreeLemmas.{holds_both, nodes_set}
use Rattle.ring_rules.proofs.tree.+push_tree.Goals as goal

pub returns-clause-nodes : goal.returns-clause-nodes
returns-clause-nodes t c =
    let spots = c.args.cells.now.spots in
    let run = c.args.run in
    let node : Node = record { run = c.args.run; zone = c.joined-zone.result; end = c.len-end.result } in
    let same : c.len-at.result ≡ length c.args.nodes.now.items = c.len-at.ensures ∙ c.args.nodes.now.ok.0 in
    let last : c.len-end.result ≡ length c.push_tree-2.new.nodes.items = c.len-end.ensures ∙ c.push_tree-2.new.nodes.ok.0 in
    let low : c.len-at.result < length c.push.new.self.items = omega (arith, same, c.in_ok-push.ensures.len, c.push.new.self.ok.0, c.args.nodes.now.ok.0) in
    let inside : c.len-at.result < length c.push_tree-2.new.nodes.items = omega (arith, low, c.in_ok-first.ensures.longer, c.in_ok-second.ensures.longer) in
    nodes_set spots c.push_tree-2.new.nodes.items c.len-at.result node c.in_ok-second.ensures.nodes (record {
      within = c.requires.within;
      more = omega (arith, inside, last);
      holds = holds_both spots run.start c.parting-middle.result run.end c.in_ok-first.first c.in_ok-second.second c.joined-zone.result c.joined-zone.ensures.first c.joined-zone.ensures.second c.in_ok-first.ensures.zone c.in_ok-second.ensures.zone;
    })
    inside

pub returns-clause-zone : goal.returns-clause-zone
returns-clause-zone t c =
    holds_both c.args.cells.now.spots c.args.run.start c.parting-middle.result c.args.run.end c.in_ok-first.first c.in_ok-second.second c.joined-zone.result c.joined-zone.ensures.first c.joined-zone.ensures.second c.in_ok-first.ensures.zone c.in_ok-second.ensures.zone
