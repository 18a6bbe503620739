use Rattle.ring_rules.proofs.SoundnessLemmas.{held, slots_held, straight}
use Rattle.ring_rules.proofs.laws.rings_hold.Goals as goal

pub returns-clause-rounds : goal.returns-clause-rounds
returns-clause-rounds g c = held g.S.PadShape.points g.S.PadShape.covers g.met.S.PadShape.holds

pub returns-clause-slots : goal.returns-clause-slots
returns-clause-slots g c = slots_held g.S.PadShape.points g.S.PadShape.covers g.met.S.PadShape.holds_slots

pub returns-clause-straight : goal.returns-clause-straight
returns-clause-straight g c = straight g.S.PadShape.covers
