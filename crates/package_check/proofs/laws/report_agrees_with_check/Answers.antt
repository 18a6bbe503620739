use Rattle.package_check.proofs.AgreementLemmas as counting
use Rattle.package_check.proofs.laws.report_agrees_with_check.Goals as goal

pub returns : goal.returns
returns c = counting.report_agrees_with_check c.unique_answer.ensures c.passing_is_sound.ensures
