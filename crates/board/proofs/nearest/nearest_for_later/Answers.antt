use Rattle.board.proofs.Common.{◌≡◌, ℕ, pos, ◌+ℤ◌, length, subst, arith, w64, to_z, of_z, ints, IsNearestForLater}
use Rattle.board.proofs.NearestSearch.{one_later}
use Rattle.board.proofs.nearest.nearest_for_later.Goals as goal

pub loop-place-preserved : goal.loop-place-preserved
loop-place-preserved c =
    one_later c.args.holes.now c.args.prefix.now.count c.loop-place.place (to_z w64 (of_z w64 (to_z w64 (of_z w64 c.args.best.gap) +ℤ pos 1))) c.args.best c.loop-place.nearest c.in_ok-nearest.nearest (omega (arith, ints, c.requires.held.possible)) c.loop-place.invariant c.in_ok-nearest.ensures

pub returns : goal.returns
returns c =
    let ended : c.loop-place.place ≡ length c.args.holes.now = omega (arith, c.loop-place-test.false, c.loop-place.auto.place-end, c.requires.prefix.inside) in
    subst (λ (n : ℕ). IsNearestForLater c.args.holes.now c.args.prefix.now.count n c.args.best c.loop-place.nearest) ended c.loop-place.invariant
