-- Two points are less than 20 m apart along an axis, so the square of their distance is at most 8 * 10^26.
use Rattle.picture.proofs.Common.{◌≤◌, ◌*◌, arith, ints}
use Rattle.std.proofs.lemmas.Nat.{mul-le}
use Rattle.picture.proofs.copper.arc_radius.Goals as goal

pub floor_root-requires : goal.floor_root-requires
floor_root-requires c =
    let across = c.unsigned_abs-across.result in
    let up = c.unsigned_abs-up.result in
    let x : across * across ≤ 20000000000000 * 20000000000000 = mul-le across across 20000000000000 20000000000000 (omega (arith, ints)) (omega (arith, ints)) in
    let y : up * up ≤ 20000000000000 * 20000000000000 = mul-le up up 20000000000000 20000000000000 (omega (arith, ints)) (omega (arith, ints)) in
    omega (arith, ints, c.square_length.ensures, x, y)
