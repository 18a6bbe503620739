use Rattle.package_check.proofs.SameAnswerLemmas.{same_answers}
use Rattle.package_check.proofs.laws.same_answers.Goals as goal

pub returns : goal.returns
returns c = same_answers
