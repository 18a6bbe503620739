use Rattle.ring_rules.proofs.SoundnessLemmas.{apart}
use Rattle.ring_rules.proofs.laws.gaps_hold.Goals as goal

pub returns : goal.returns
returns c = apart
