use Rattle.board.proofs.Common.{◌≡◌, Bool, List, [], ◌∷◌, ◌++◌, get_or, map, take, sym, ap, ◌∙◌, map_more, is_ring_finding, Drilled}
use Rattle.board.proofs.LackingLemmas.{short_lacks_ring}
use Rattle.board.proofs.lacking.lacking_by.Goals as goal

pub loop-hole-preserved : goal.loop-hole-preserved
loop-hole-preserved g c =
    let holes = c.args.holes.now in
    let hole = c.loop-hole.hole in
    let pads = get_or (map (λ pads. pads.now) c.args.layers.now) c.args.layer [] in
    let test : Drilled → Bool = is_ring_finding g.S.PadShape.covers c.args.rules.profile c.args.rules.ring c.args.layer pads in
    let is : c.falls_short.result ≡ test (get_or holes hole c.index-holes-hole.result) = c.falls_short.ensures
    ∙ (short_lacks_ring g.S.PadShape.covers g.met.S.DepthShape.covers_less c.args.rules.profile pads holes c.args.bests.now c.requires c.args.layer c.args.rules.ring hole c.index-holes-hole.result c.index-bests-hole.result c.loop-hole-test.true c.index-holes-hole.is c.index-bests-hole.is
    ∙ ap test c.index-holes-hole.is) in
    c.in_ok-push.ensures.items ∙ (ap (λ (bs : List Bool). bs ++ c.falls_short.result ∷ []) c.loop-hole.invariant
    ∙ (ap (λ (b : Bool). map test (take hole holes) ++ b ∷ []) is ∙ sym (map_more test holes hole c.index-holes-hole.result c.loop-hole-test.true)))
