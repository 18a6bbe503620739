use Rattle.ring_rules.proofs.SoundnessLemmas.{holes_held}
use Rattle.ring_rules.proofs.laws.holes_hold.Goals as goal

pub returns : goal.returns
returns g c = holes_held g.S.PadShape.points g.S.PadShape.covers g.met.S.SlotShape.holds_holes
