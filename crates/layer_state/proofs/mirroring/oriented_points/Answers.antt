-- One corner more.
use Rattle.layer_state.proofs.Common.{◌∙◌, ◌++◌, [], ◌∷◌, map, take, take_more, map-append, ap, sym, arith, oriented_point}
use Rattle.layer_state.proofs.mirroring.oriented_points.Goals as goal

pub loop-point-preserved : goal.loop-point-preserved
loop-point-preserved c =
    let there = oriented_point c.args.mirroring c.args.turns in
    let before = take c.loop-point.point-index c.args.points.now in
    c.in_ok-push.ensures.items ∙ (λ i. c.loop-point.invariant i ++ c.oriented_point.ensures i ∷ []) ∙ sym (ap (map there) (take_more c.args.points.now c.loop-point.point-index c.point-item.result (omega arith) ∙ ap (λ p. before ++ p ∷ []) (sym c.point-item.is)) ∙ map-append there before (c.point-item.result ∷ []))
