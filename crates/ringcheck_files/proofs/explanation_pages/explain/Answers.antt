use Rattle.ringcheck_files.proofs.Appending.{appends_both}
use Rattle.ringcheck_files.proofs.explanation_pages.explain.Goals as goal

pub returns-in_ok-write-in-None-clause-says : goal.returns-in_ok-write-in-None-clause-says
returns-in_ok-write-in-None-clause-says g c = rw c.in-Some.is (c.in-None.ensures, appends_both _ _ _ _ _ c.in_ok-refuse_word-in-None.ensures c.in_ok-write-in-None.ensures.bytes)
