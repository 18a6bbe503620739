use Rattle.std.proofs.Common.{◌≤◌, arith}
use Rattle.std.proofs.lemmas.Int.{ints}
use Rattle.pad_shapes.proofs.EdgesLemmas.{square_bound}
use Rattle.pad_shapes.proofs.edges.square_edge.Goals as goal

pub returns-clause-small : goal.returns-clause-small
returns-clause-small c =
    let x : c.abs_diff-dx.result ≤ 20000000000000 = omega (arith, ints, c.abs_diff-dx.ensures, c.x.ensures.in_range, c.x-2.ensures.in_range) in
    let y : c.abs_diff-dy.result ≤ 20000000000000 = omega (arith, ints, c.abs_diff-dy.ensures, c.y.ensures.in_range, c.y-2.ensures.in_range) in
    let s = square_bound c.abs_diff-dx.result c.abs_diff-dy.result x y in
    omega (arith, ints, s, c.unsigned_abs.ensures.value, c.square_length.ensures)
