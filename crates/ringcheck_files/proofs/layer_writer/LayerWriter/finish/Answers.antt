use Rattle.ringcheck_files.proofs.Common.{◌≡◌, ◌++◌, ℕ, List, Result, subst, ◌∙◌, ap, err_from_is_err_and, Vec, Fault, Strict, AnswersAlways, Entries, canonical_text, without_places, vec_bytes}
use Rattle.ringcheck_files.proofs.WriterLemmas.{legal_ends, from_always, layer_read, same_commands}
use Rattle.ringcheck_files.proofs.layer_writer.LayerWriter.finish.Goals as goal

pub returns-in_err-commands : goal.returns-in_err-commands
returns-in_err-commands c text image h legal =
    let p = err_from_is_err_and c.from_residual.result c.from_residual.ensures.1 in
    rw (p.1, p.2) (legal_ends (λ (v : Vec ℕ). v.items) (λ (answer : Result (List ℕ) Fault). answer ≡ canonical_text (without_places image.commands)) text h.gone image c.in_err-commands.field-0.0 legal (c.in_err-commands.ensures.exact Strict h.gone text h.words))

pub returns : goal.returns
returns c text image h legal =
    let all : Entries = h.gone ++ c.in_ok-commands.commands.items in
    let same : h.gone ++ c.deref.result.now ≡ image.commands = ap (λ (x : Entries). h.gone ++ x) c.deref.ensures.value ∙ same_commands text all image.commands (c.in_ok-commands.ensures.exact Strict h.gone text h.words) (layer_read text image legal) in
    from_always (λ (v : Vec ℕ). v.items) (λ (answer : Result (List ℕ) Fault). answer ≡ canonical_text (without_places image.commands)) c.finish-2.result
    (subst (λ (x : Entries). AnswersAlways vec_bytes (λ answer. answer ≡ canonical_text (without_places x)) c.finish-2.result) same (c.finish-2.ensures (h.gone ++ c.deref.result.now) (c.in_ok-add.ensures h.gone h.lines)))
