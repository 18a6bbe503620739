use Rattle.board.proofs.Common.{◌≤◌, ◌*◌, arith, ints, le_of_squares}
use Rattle.std.proofs.lemmas.Nat.{mul-le}
use Rattle.board.proofs.roots.length_rounded_down.Goals as goal

pub returns-clause-in_range : goal.returns-clause-in_range
returns-clause-in_range c =
    let x : c.args.dx * c.args.dx ≤ 20000000000000 * 20000000000000 = mul-le c.args.dx c.args.dx 20000000000000 20000000000000 c.requires.x c.requires.x in
    let y : c.args.dy * c.args.dy ≤ 20000000000000 * 20000000000000 = mul-le c.args.dy c.args.dy 20000000000000 20000000000000 c.requires.y c.requires.y in
    let h = (c.floor_root.ensures c.floor_root.result).1 (omega arith) in
    le_of_squares c.floor_root.result 30000000000000 (omega (arith, ints, c.square_length.ensures, x, y, h))
