use Rattle.picture.proofs.StrictLemmas.{points_of_crosses}
use Rattle.picture.proofs.laws.crosses_of_rows.Goals as goal

pub returns : goal.returns
returns c = points_of_crosses
