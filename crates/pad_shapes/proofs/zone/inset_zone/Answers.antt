use Rattle.std.proofs.Common.{arith}
use Rattle.std.proofs.lemmas.Int.{ints}
use Rattle.pad_shapes.proofs.zone.inset_zone.Goals as goal

pub returns : goal.returns
returns c = λ p deep. record {
  left = omega (arith, ints, deep.x);
  right = omega (arith, ints, deep.x);
  bottom = omega (arith, ints, deep.y);
  top = omega (arith, ints, deep.y);
}
