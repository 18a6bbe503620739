use Rattle.board.proofs.Common.{◌<◌, length, get_or, refl, subst, arith, get_or_default, default_hole, hole_at, Drilled, IsGap}
use Rattle.board.specs.Inner.NearestHoles.{IsGapInRange}
use Rattle.board.proofs.PassedIntegers.{on}
use Rattle.board.proofs.nearest.pair_at.Goals as goal

pub returns : goal.returns
returns c =
    let holes = c.args.holes.now in
    let gap = c.gap_between-gap.result in
    let first : c.args.first < length c.args.holes.now = omega (arith, c.requires.ordered, c.requires.inside) in
    let read = subst (λ (d : Drilled). IsGap (get_or holes c.args.first c.index-holes-first.result).hole d.hole gap) (get_or_default holes c.args.second c.index-holes-second.result default_hole c.requires.inside) c.gap_between-gap.ensures.exact in
    let is = subst (λ (d : Drilled). IsGap d.hole (hole_at holes c.args.second) gap) (get_or_default holes c.args.first c.index-holes-first.result default_hole first) read in
    record {
      at_first = refl;
      at_second = refl;
      gap = on (IsGap (hole_at holes c.args.first) (hole_at holes c.args.second)) gap gap c.gap_between-gap.type_inv refl is;
      possible = on IsGapInRange gap gap c.gap_between-gap.type_inv refl c.gap_between-gap.ensures.in_range;
    }
