use Rattle.ring_rules.proofs.Common.{arith, ints}
use Rattle.ring_rules.proofs.NearLemmas.{none_within, all_within}
use Rattle.ring_rules.proofs.near.near_zone.Goals as goal

pub returns-then-far-le0 : goal.returns-then-far-le0
returns-then-far-le0 c = λ o under size near.
    absurd (none_within c.args.gap c.farthest-far.result o c.args.hole.now (let v = c.farthest-far.ensures.value o under.radius size in omega (arith, ints, v, c.requires)) (omega (arith, ints, c.if-far-le0.true, c.farthest-far.type_inv)) near)

pub returns : goal.returns
returns c = λ o under size near.
    c.zone_round.ensures o under size
    (all_within c.args.gap c.farthest-far.result c.unsigned_abs.result o c.args.hole.now (let v = c.farthest-far.ensures.value o under.radius size in omega (arith, ints, v, c.requires)) (omega (arith, ints, c.unsigned_abs.ensures.value, c.if-far-le0.false, c.farthest-far.type_inv)) near)
