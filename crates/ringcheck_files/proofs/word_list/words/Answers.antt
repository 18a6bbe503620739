use Rattle.ringcheck_files.proofs.LookupLemmas.{word_is_listed}
use Rattle.ringcheck_files.proofs.word_list.words.Goals as goal

pub returns-clause-each : goal.returns-clause-each
returns-clause-each c = word_is_listed
