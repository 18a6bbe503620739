use Rattle.gerber_text.proofs.Common.{◌≡◌, ◌<◌, length, w64, rules, arith}
use Rattle.std.proofs.lemmas.Int.{to_z-of_z}
use mir.Val.{to_z, of_z}
use Rattle.gerber_text.proofs.FastPathLemmas.{coordinate_there, coordinate_away}
use Rattle.gerber_text.proofs.fast_path.first_coordinate.Goals as goal

pub returns-in_ok-n-in-len1-up-clause-value : goal.returns-in_ok-n-in-len1-up-clause-value
returns-in_ok-n-in-len1-up-clause-value c =
    let n = c.in_ok-n-in-len1-up.n in
    let fits : to_z w64 (of_z w64 n) ≡ n = search (rules, to_z-of_z) in
    let some : 0 < length c.args.bytes.now = omega (arith, c.in-len1-up.len_at_least) in
    coordinate_there c.args.letter c.args.bytes.now c.in_ok-n-in-len1-up.rest.now n (to_z w64 (of_z w64 n)) some c.if-first-letter.true fits c.in_ok-n-in-len1-up.ensures.value

pub returns-in_default-clause-value : goal.returns-in_default-clause-value
returns-in_default-clause-value c = coordinate_away c.args.letter c.args.bytes.now
