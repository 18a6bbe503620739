use Rattle.ring_rules.proofs.Common.{◌+◌, ◌<◌, length, sym, subst, arith, IsInZone, spot_at, point_at, Node, RingIndex}
use Rattle.ring_rules.proofs.GivesRingLemmas.{gives_none}
use Rattle.ring_rules.proofs.TreeLemmas.{not_is_true}
use Rattle.ring_rules.proofs.regions.RingSearch.passes_over.Goals as goal

pub returns : goal.returns
returns g c = λ missed marks over i from below marked.
    let index : RingIndex = c.args.self.now.index.now in
    let hole = (spot_at c.args.self.now.index.now.cells.spots i).hole in
    let is = c.requires.ready.ready.nodes c.args.i c.requires.inside in
    let inside = subst (λ (n : Node). IsInZone n.zone (point_at index.cells.spots i)) (sym c.node-node.ensures) (is.holds i from below) in
    let listed : i < length c.args.self.now.index.now.cells.spots = omega (arith, below, is.within) in
    gives_none g.S.PadShape.covers index.rules.profile index.rules.ring hole c.args.self.now.pad.now
    (c.may_cover.ensures (not_is_true c.may_cover.result missed) (point_at index.cells.spots i) (hole.radius + index.rules.ring) (c.requires.ready.reach i listed) inside)
