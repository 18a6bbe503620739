use Rattle.ring_rules.proofs.CoreLemmas.{clear_holes_are_apart}
use Rattle.ring_rules.proofs.laws.clear_holes_are_apart.Goals as goal

pub returns : goal.returns
returns c = clear_holes_are_apart
