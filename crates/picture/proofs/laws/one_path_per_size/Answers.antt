use Rattle.picture.proofs.PadOrderLemmas.{one_path_per_size_proof}
use Rattle.picture.proofs.laws.one_path_per_size.Goals as goal

pub returns : goal.returns
returns c = one_path_per_size_proof
