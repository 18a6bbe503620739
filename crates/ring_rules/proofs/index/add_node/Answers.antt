use Rattle.ring_rules.proofs.Common.{sym, subst, arith, IsNode, point_at}
use Rattle.ring_rules.proofs.index.add_node.Goals as goal

pub returns-then-are_disjoint-clause-listed : goal.returns-then-are_disjoint-clause-listed
returns-then-are_disjoint-clause-listed c = λ k from below inside. record {
  there = λ within.
      let is = subst (IsNode c.args.cells.now.spots c.args.i) (sym c.node-node.ensures) (c.requires.cells.nodes c.args.i c.requires.inside) in
      absurd (c.are_disjoint.ensures c.if-are_disjoint.true (point_at c.args.cells.now.spots k) within (is.holds k (omega (arith, from, c.if-run-node.false)) below));
}
