use Rattle.ringcheck_files.proofs.file_jobs.refuse_file.Goals as goal

pub returns : goal.returns
returns g c = rw c.name-reason.ensures at c.in_ok-write.ensures.bytes
