use Rattle.board.proofs.Common.{◌≡◌, ℕ, length, subst, arith, w64, to_z, of_z, ints, IsNearestForAll}
use Rattle.board.proofs.NearestSearch.{nearest_for_one_more}
use Rattle.board.proofs.nearest.nearest_for_all.Goals as goal

pub loop-place-preserved : goal.loop-place-preserved
loop-place-preserved c =
    nearest_for_one_more c.args.holes.now c.args.prefix.now.count c.loop-place.place (to_z w64 (of_z w64 c.gap_below-gap.result)) c.loop-place.nearest c.in_ok-nearest.nearest c.requires.all c.loop-place.invariant
    (λ g h. c.gap_below-gap.ensures.rest g (omega (arith, ints, h, c.gap_below-gap.ensures.in_range))) c.in_ok-nearest.ensures

pub returns : goal.returns
returns c =
    let ended : c.loop-place.place ≡ length c.args.holes.now = omega arith in
    subst (λ (n : ℕ). IsNearestForAll c.args.holes.now n c.loop-place.nearest) ended c.loop-place.invariant
