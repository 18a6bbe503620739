use Rattle.picture.proofs.EscapesLemmas.{escaped_safe}
use Rattle.picture.proofs.laws.escaped_names.Goals as goal

pub returns : goal.returns
returns c = escaped_safe 0 0
