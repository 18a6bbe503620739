use Rattle.ringcheck_files.proofs.outcomes.refuse_word.Goals as goal

pub returns : goal.returns
returns g c = rw c.name.ensures at c.in_ok-write.ensures.bytes
