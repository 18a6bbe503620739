use Rattle.picture.proofs.Common.{ap, refl, flat_map, has_written_append, has_written_of_eq, enumerated_all, placed_hole}
use Rattle.picture.proofs.Gathered.{placed_next}
use Rattle.picture.proofs.holes.write_holes.Goals as goal

pub loop-place-preserved : goal.loop-place-preserved
unfolding placed_hole
loop-place-preserved g c = λ plain.
    let pen = c.args.pen.now in
    let holes = c.args.holes.now in
    let item = c.index-holes-place in
    let before = c.loop-place.invariant plain in
    let start = c.in_ok-write_start.ensures before.plain refl in
    let shape = c.in_ok-fmt_on.ensures.writes start.plain refl in
    let end = c.in_ok-write_end.ensures shape.plain refl in
    has_written_of_eq _ _ _ _ _ (placed_next (placed_hole pen holes) holes c.loop-place.place item.result c.loop-place-test.true item.is)
    (has_written_append _ _ _ _ _ _ before (has_written_append _ _ _ _ _ _ start (has_written_append _ _ _ _ _ _ shape end)))

pub returns : goal.returns
returns g c = λ plain ok.
    let pen = c.args.pen.now in
    let holes = c.args.holes.now in
    has_written_of_eq _ _ _ _ _ (ap (flat_map (placed_hole pen holes)) (enumerated_all holes c.loop-place.place c.loop-place-test.false)) (c.loop-place.invariant plain)
