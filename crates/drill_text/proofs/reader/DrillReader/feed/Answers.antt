use Rattle.drill_text.proofs.reader.DrillReader.feed.Goals as goal

pub returns-in-Err-clause-err : goal.returns-in-Err-clause-err
returns-in-Err-clause-err c k keep text h = c.in-Err.ensures.err k keep text h.holds
