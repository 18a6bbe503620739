use Rattle.ringcheck_files.proofs.Common.{◌≡◌, ◌++◌, ℕ, List, Result, [], ap, rules, subst, sym, ◌∙◌, append_assoc, err_from_is_err_and, Vec, chunks_rest, Fault, canonical_text, without_places, IsWriterAfter, done_is_all}
use Rattle.ringcheck_files.proofs.WriterLemmas.{legal_goes_on}
use Rattle.ringcheck_files.proofs.rewrite.write_layer.Goals as goal

pub loop-piece-init : goal.loop-piece-init
loop-piece-init c = (search rules, tt, search rules, ([], c.new-writer.ensures, search rules))

pub loop-piece-preserved : goal.loop-piece-preserved
loop-piece-preserved c =
    let piece = c.in-Some.piece.now in
    let steps = c.in-Some.ensures.steps in
    let so_far = c.loop-piece.invariant.3 in (
      search rules,
      tt,
      steps.0 ∙ c.loop-piece.invariant.2,
      (
        so_far.0 ++ piece,
        c.in_ok-take.ensures.ok so_far.0 so_far.1,
        append_assoc so_far.0 piece (chunks_rest c.next.new.self) ∙ (ap (λ (t : List ℕ). so_far.0 ++ t) (sym steps.1.0) ∙ so_far.2),
      ),
    )

pub returns-in_err-take : goal.returns-in_err-take
returns-in_err-take c image legal =
    let p = err_from_is_err_and c.from_residual.result c.from_residual.ensures.1 in
    let piece = c.in-Some.piece.now in
    let rest = chunks_rest c.next.new.self in
    let so_far = c.loop-piece.invariant.3 in
    let whole = append_assoc so_far.0 piece rest ∙ (ap (λ (t : List ℕ). so_far.0 ++ t) (sym c.in-Some.ensures.steps.1.0) ∙ so_far.2) in
    rw (p.1, p.2) (legal_goes_on (λ (v : Vec ℕ). v.items) (λ (answer : Result (List ℕ) Fault). answer ≡ canonical_text (without_places image.commands)) (so_far.0 ++ piece) rest c.args.bytes.now image c.in_err-take.field-0.0 whole legal (c.in_err-take.ensures.err so_far.0 so_far.1))

pub returns : goal.returns
returns c image legal =
    let bytes = c.args.bytes.now in
    let so_far = c.loop-piece.invariant.3 in
    let all = done_is_all so_far.0 (chunks_rest c.loop-piece.piece-iterator) bytes c.in-None.ensures.steps.1.0 so_far.2 in
    c.finish.ensures bytes image (subst (IsWriterAfter c.loop-piece.writer) all so_far.1) legal
