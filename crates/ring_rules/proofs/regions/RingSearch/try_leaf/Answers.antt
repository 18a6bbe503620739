use Rattle.ring_rules.proofs.Common.{subst, arith, gives_ring_at, HasNoMarkFrom, NoMarkPassesFrom, Node}
use Rattle.ring_rules.proofs.TreeLemmas.{over_more, still_over}
use Rattle.ring_rules.proofs.regions.RingSearch.try_leaf.Goals as goal

pub returns : goal.returns
returns g c =
    let test = gives_ring_at g.S.PadShape.covers c.args.self.now.index.now c.args.self.now.pad.now in
    let now = c.try_run-is_left.new.marks in
    let removes = c.try_run-is_left.ensures.removes in
    let over = still_over c.args.self.now.index.now test c.args.open_nodes.now c.args.marks.now now removes c.requires.over in
    record {
      over = over_more c.args.self.now.index.now c.args.open_nodes.now now c.args.i c.try_run-is_left.result (omega (arith, c.requires.inside, c.requires.over.open_nodes)) over
          (λ e. subst (λ (n : Node). HasNoMarkFrom n.run.start n.run.end now) c.node-node.ensures (c.try_run-is_left.ensures.none e));
      removes = removes;
      tried = subst (λ (n : Node). NoMarkPassesFrom test n.run.start n.run.end now) c.node-node.ensures c.try_run-is_left.ensures.tried;
    }
