use Rattle.board.proofs.Common.{ℕ, max, get_or, subst, IsNearerPair}
use Rattle.board.proofs.NearestSearch.{none_tried, one_tried}
use Rattle.board.proofs.nearest.nearest_among.Goals as goal

pub loop-other-init : goal.loop-other-init
loop-other-init c = none_tried c.args.holes.now c.args.place c.args.near.now c.args.best c.requires

pub loop-other-preserved : goal.loop-other-preserved
loop-other-preserved c =
    one_tried c.args.holes.now c.args.place c.args.near.now c.loop-other.other-index c.args.best c.loop-other.nearest c.tried-nearest.result c.loop-other.invariant
    (subst (λ (n : ℕ). IsNearerPair c.args.holes.now n (max c.args.place (get_or c.args.near.now c.loop-other.other-index 0)) c.loop-other.nearest c.tried-nearest.result) c.min.ensures
    (subst (λ (n : ℕ). IsNearerPair c.args.holes.now c.min.result n c.loop-other.nearest c.tried-nearest.result) c.max.ensures c.tried-nearest.ensures))
