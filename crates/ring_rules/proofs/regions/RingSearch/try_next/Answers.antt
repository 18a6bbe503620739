use Rattle.ring_rules.proofs.Common.{sym, subst, gives_ring_at, NoMarkPassesFrom, Node}
use Rattle.ring_rules.proofs.TreeLemmas.{passes_both}
use Rattle.ring_rules.proofs.regions.RingSearch.try_next.Goals as goal

pub returns-then-try_node-clause-tried : goal.returns-then-try_node-clause-tried
returns-then-try_node-clause-tried g c = λ start was.
    let test = gives_ring_at g.S.PadShape.covers c.args.self.now.index.now c.args.self.now.pad.now in
    passes_both test start c.args.done c.node-node.result.run.start c.node-node.result.run.end c.args.marks.now c.try_node.new.marks c.try_node.ensures.removes c.if-done-node.false was
    (subst (λ (n : Node). NoMarkPassesFrom test n.run.start n.run.end c.try_node.new.marks) (sym c.node-node.ensures) (c.try_node.ensures.tried c.if-try_node.true))

pub returns-clause-tried : goal.returns-clause-tried
returns-clause-tried g c = λ start was i from below marked. was i from below (c.try_node.ensures.removes.kept i marked)
