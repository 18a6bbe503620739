use Rattle.drill_text.proofs.CalledLemmas.{called_is_listed, listed_is_called, one_for_each}
use Rattle.drill_text.proofs.laws.mixed_files.Goals as goal

pub returns : goal.returns
returns c = record { called = listed_is_called; listed = called_is_listed; one_each = one_for_each }
