use Rattle.gerber_text.proofs.CanonicalParses.{parses}
use Rattle.gerber_text.proofs.laws.canonical_items.Goals as goal

pub returns : goal.returns
returns c = parses
