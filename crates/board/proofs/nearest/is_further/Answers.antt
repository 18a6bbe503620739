use Rattle.board.proofs.Common.{◌<◌, length, arith, ints}
use Rattle.board.proofs.NearLemmas.{gap_of_read_holes}
use Rattle.board.proofs.nearest.is_further.Goals as goal

pub returns : goal.returns
returns c = λ test g gap.
    let first : c.args.first < length c.args.holes.now = omega (arith, c.requires.ordered, c.requires.inside) in
    let low = c.has_gap.ensures test g (gap_of_read_holes c.args.holes.now c.args.first c.args.second c.index-holes-first.result c.index-holes-second.result g first c.requires.inside gap) in
    c.gap_to_beat-gap.ensures.gap_to_beat g (omega (arith, ints, low, c.gap_to_beat-gap.ensures.in_range))
