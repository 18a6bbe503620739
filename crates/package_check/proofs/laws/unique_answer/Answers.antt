use Rattle.package_check.proofs.AnswerUniqueness.{unique_answer}
use Rattle.package_check.proofs.laws.unique_answer.Goals as goal

pub returns : goal.returns
returns c = unique_answer c.unique_reading.ensures
