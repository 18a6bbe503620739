use Rattle.picture.proofs.Common.{ap, refl, flat_map, has_written_append, has_written_of_eq, enumerated_all, placed_pad}
use Rattle.picture.proofs.Gathered.{placed_next}
use Rattle.picture.proofs.pads.write_paths.Goals as goal

pub loop-place-preserved : goal.loop-place-preserved
unfolding placed_pad
loop-place-preserved g c = λ plain.
    let pads = c.args.pads.now in
    let item = c.index-pads-place in
    let before = c.loop-place.invariant plain in
    let start = c.in_ok-write_start.ensures before.plain refl in
    let shape = c.in_ok-write_outline.ensures start.plain refl in
    let end = c.in_ok-write_end.ensures shape.plain refl in
    has_written_of_eq _ _ _ _ _ (placed_next (placed_pad pads) pads c.loop-place.place item.result c.loop-place-test.true item.is)
    (has_written_append _ _ _ _ _ _ before (has_written_append _ _ _ _ _ _ start (has_written_append _ _ _ _ _ _ shape end)))

pub returns : goal.returns
returns g c = λ plain ok.
    let pads = c.args.pads.now in
    has_written_of_eq _ _ _ _ _ (ap (flat_map (placed_pad pads)) (enumerated_all pads c.loop-place.place c.loop-place-test.false)) (c.loop-place.invariant plain)
