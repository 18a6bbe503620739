use Rattle.ring_rules.proofs.Common.{arith, ints}
use Rattle.ring_rules.proofs.layout.joined.Goals as goal

pub returns-clause-first : goal.returns-clause-first
returns-clause-first c = λ p was. record {
  left = (let h = was.left in omega (arith, ints, h, c.min.ensures.self_bound));
  right = (let h = was.right in omega (arith, ints, h, c.max.ensures.self_bound));
  bottom = (let h = was.bottom in omega (arith, ints, h, c.min-2.ensures.self_bound));
  top = (let h = was.top in omega (arith, ints, h, c.max-2.ensures.self_bound));
}

pub returns-clause-second : goal.returns-clause-second
returns-clause-second c = λ p was. record {
  left = (let h = was.left in omega (arith, ints, h, c.min.ensures.other_bound));
  right = (let h = was.right in omega (arith, ints, h, c.max.ensures.other_bound));
  bottom = (let h = was.bottom in omega (arith, ints, h, c.min-2.ensures.other_bound));
  top = (let h = was.top in omega (arith, ints, h, c.max-2.ensures.other_bound));
}
