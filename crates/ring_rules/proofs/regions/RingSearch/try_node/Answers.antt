use Rattle.ring_rules.proofs.Common.{arith}
use Rattle.ring_rules.proofs.TreeLemmas.{over_more}
use Rattle.ring_rules.proofs.regions.RingSearch.try_node.Goals as goal

pub returns-clause-over : goal.returns-clause-over
returns-clause-over g c =
    over_more c.args.self.now.index.now c.args.open_nodes.now c.args.marks.now c.args.i c.has_open-is_open.result (omega (arith, c.requires.inside, c.requires.over.open_nodes)) c.requires.over (λ e. c.has_open-is_open.ensures e c.args.marks.now c.requires.over)
