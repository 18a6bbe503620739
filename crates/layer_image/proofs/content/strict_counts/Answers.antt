use Rattle.layer_image.proofs.KeptLemmas.{counts_of_flashes}
use Rattle.layer_image.proofs.content.strict_counts.Goals as goal

pub returns : goal.returns
returns c parts commands h = counts_of_flashes commands _ _ h.pad_count h.other
