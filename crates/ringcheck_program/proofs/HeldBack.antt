-- Runs whose output is held back.
use Rattle.std.proofs.Common.{◌≡◌, ◌∙◌, ℕ, List, [], Option, None, Some, ap, append-nil, inl, inr, refl, subst, sym}
use Rattle.std.specs.Io.Buffered.{writer_buffer, writer_contents, writer_inner}
use Rattle.std.specs.Io.KnownBytes.{append_known}
use Rattle.std.specs.declared.io.buffered.BufWriter.{BufWriter}
use Rattle.ringcheck.specs.RequestStatus.{IsProgramStatus}
use Rattle.ringcheck_files.specs.LoaderRelation.{Relation}
use Rattle.ringcheck_files.specs.Writers.{Written, texts}
use Rattle.ringcheck_files.specs.declared.Status.{Status}
use Rattle.ringcheck_files.specs.declared.outcomes.Streams.{Streams}
use Rattle.ringcheck_program.specs.Endings.{IsHeldBackStatus, IsWrittenOut}

nothing_more : (known : Option (List ℕ)) → append_known known [] ≡ known
nothing_more None = refl
nothing_more (Some bytes) = ap Some (append-nil bytes)

-- a writer that holds nothing back holds what the one below it does
held_none : {W A : Type 0} (contents : W → Option (List ℕ)) (held : BufWriter W A) (below : W) → writer_inner held ≡ below → writer_buffer held ≡ [] → writer_contents contents held ≡ contents below
held_none contents held below is none = ap (append_known (contents (writer_inner held))) none ∙ (nothing_more (contents (writer_inner held)) ∙ ap contents is)

-- two writers that hold nothing back hold what those below them do
pub both_held_none : {W E A : Type 0} (answered : W → Option (List ℕ)) (said : E → Option (List ℕ)) (out : BufWriter W A) (err : BufWriter E A) (to : Streams W E)
    → writer_inner out ≡ to.out → writer_buffer out ≡ [] → writer_inner err ≡ to.err → writer_buffer err ≡ []
    → texts (writer_contents answered) (writer_contents said) (record { out = out; err = err }) ≡ texts answered said to
both_held_none answered said out err to out_is out_none err_is err_none =
    ap (λ a. (a, writer_contents said err)) (held_none answered out to.out out_is out_none) ∙ ap (λ s. (answered to.out, s)) (held_none said err to.err err_is err_none)

-- a run whose two writers are written out
pub run_written_out : {W E A : Type 0} (asked words : List (List ℕ)) (has : Relation) (failed_before failed_after : ℕ)
    (answered : W → Option (List ℕ)) (said : E → Option (List ℕ)) (to : Streams W E) (before : Written) (held : Streams (BufWriter W A) (BufWriter E A))
    (ran : Status) (first : Status × W) (last : Status × E) → asked ≡ words → before ≡ texts answered said to
    → IsProgramStatus asked has failed_before failed_after before (texts (writer_contents answered) (writer_contents said) held) ran
    → IsWrittenOut answered held.out ran first → IsWrittenOut said held.err first.0 last
    → IsHeldBackStatus words has failed_before failed_after answered said to (last.0, record { out = first.1; err = last.1 })
run_written_out asked words has failed_before failed_after answered said to before held ran first last are begins says w (inr device) = inr device
run_written_out asked words has failed_before failed_after answered said to before held ran first last are begins says (inr device) (inl (same, kept)) = inr (same ∙ device)
run_written_out asked words has failed_before failed_after answered said to before held ran first last are begins says (inl (as_ran, out_kept)) (inl (same, err_kept)) =
    let printed : Written = texts (writer_contents answered) (writer_contents said) held in
    let of_words = subst (λ (ws : List (List ℕ)). IsProgramStatus ws has failed_before failed_after before printed ran) are says in
    let begun = subst (λ (b : Written). IsProgramStatus words has failed_before failed_after b printed ran) begins of_words in
    inl (printed, subst (λ (s : Status). IsProgramStatus words has failed_before failed_after (texts answered said to) printed s) (sym (same ∙ as_ran)) begun, out_kept, err_kept)
