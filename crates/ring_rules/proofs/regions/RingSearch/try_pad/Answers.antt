use Rattle.ring_rules.proofs.Common.{◌+◌, spot_at, point_at, gives_ring_at, RingIndex}
use Rattle.ring_rules.proofs.ZoneRowsLemmas.{fails}
use Rattle.ring_rules.proofs.GivesRingLemmas.{given_from}
use Rattle.ring_rules.proofs.regions.RingSearch.try_pad.Goals as goal

pub returns-then-is_small-clause-tried : goal.returns-then-is_small-clause-tried
returns-then-is_small-clause-tried g c = λ i h marked.
    let index : RingIndex = c.args.self.now.index.now in
    let hole = (spot_at c.args.self.now.index.now.cells.spots i).hole in
    fails (gives_ring_at g.S.PadShape.covers index c.args.self.now.pad.now i) (λ gives.
    c.try_rows.ensures.tried i h (c.range_of-range.ensures.holds (point_at index.cells.spots i) (hole.radius + index.rules.ring) (c.requires.ready.reach i h) (given_from g.S.PadShape.covers index.rules.profile index.rules.ring hole c.args.self.now.pad.now gives)) marked)
