use Rattle.ringcheck_files.proofs.Common.{inl, inr}
use Rattle.std.proofs.Common.{option_map}
use Rattle.ringcheck_files.proofs.file_jobs.say_unread.Goals as goal

pub returns-in_ok-write : goal.returns-in_ok-write
returns-in_ok-write g c = inl c.in_ok-write.ensures.bytes

pub returns-in_ok-write-2 : goal.returns-in_ok-write-2
returns-in_ok-write-2 g c = inr (option_map (λ f. f.now) c.unread_sentence.result.folder, rw c.unread_sentence.ensures at c.in_ok-write-2.ensures.bytes)
