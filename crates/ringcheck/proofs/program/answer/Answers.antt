use Rattle.ringcheck.proofs.Common.{◌≡◌, inl, inr, word_bytes, in_folder}
use Rattle.ringcheck_files.specs.declared.Status.TheVariants as status
use Rattle.ringcheck.proofs.Folders.{request_along, request_device}
use Rattle.ringcheck.proofs.program.answer.Goals as goal

pub returns-in-Ok : goal.returns-in-Ok
returns-in-Ok g c =
    let later = g.L.Loader.has c.enter.new.loader in
    let has = in_folder (word_bytes c.args.line.now.folder) (g.L.Loader.has c.args.loader.now) in
    request_along later has c.in-Ok.ensures.entered _ _ c.args.line.now.request _ _ c.answer_there.result (rw c.in-Ok.ensures.counts at c.answer_there.ensures)

pub returns-in-Err : goal.returns-in-Err
returns-in-Err g c =
    let device : c.write_text.result ≡ status.Device = elim c.write_text.ensures [ inl h ↦ h.0 | inr h ↦ h ] in
    rw device (request_device (in_folder (word_bytes c.args.line.now.folder) (g.L.Loader.has c.args.loader.now)) _ _ c.args.line.now.request _ _)
