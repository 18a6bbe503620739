use Rattle.drill_text.proofs.KindLemmas.{uncontradicted_is_legal}
use Rattle.drill_text.proofs.laws.unplated_files.Goals as goal

pub returns : goal.returns
returns c = uncontradicted_is_legal
