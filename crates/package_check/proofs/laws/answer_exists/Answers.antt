use Rattle.package_check.proofs.Existence.{answer_exists}
use Rattle.package_check.proofs.laws.answer_exists.Goals as goal

pub returns : goal.returns
returns c = answer_exists c.reading_exists.ensures
