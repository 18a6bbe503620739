use Rattle.ring_rules.proofs.RingLists.{oblique_found}
use Rattle.ring_rules.proofs.laws.oblique_slots_are_found.Goals as goal

pub returns : goal.returns
returns g c = oblique_found g.S.PadShape.covers
