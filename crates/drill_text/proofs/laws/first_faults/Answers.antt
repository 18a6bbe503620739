use Rattle.drill_text.proofs.FirstFaults.{err_first, first_err, has_answer}
use Rattle.drill_text.proofs.Reasons.{reads_reasons}
use Rattle.drill_text.proofs.laws.first_faults.Goals as goal

pub returns-clause-first : goal.returns-clause-first
returns-clause-first c text f = (err_first text f, first_err text f)

pub returns-clause-answer : goal.returns-clause-answer
returns-clause-answer c = has_answer

pub returns-clause-reasons : goal.returns-clause-reasons
returns-clause-reasons c = reads_reasons
