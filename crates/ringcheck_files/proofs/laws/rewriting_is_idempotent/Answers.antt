use Rattle.ringcheck_files.proofs.SameCommandsLemmas.{rewriting_is_idempotent}
use Rattle.ringcheck_files.proofs.laws.rewriting_is_idempotent.Goals as goal

pub returns : goal.returns
returns c = rewriting_is_idempotent
