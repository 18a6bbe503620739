use Rattle.std.proofs.Common.{◌≡◌, ◌∙◌, Bor, ℕ, List, ap, map}
use Rattle.std.specs.String.{string_bytes}
use Rattle.ringcheck_program.proofs.HeldBack.{both_held_none, run_written_out}
use Rattle.ringcheck_program.specs.Endings.{words_of}
use Rattle.ringcheck_program.proofs.run_on.Goals as goal

pub returns-clause-says : goal.returns-clause-says
returns-clause-says g c =
    let texts = ap (map (λ (w : Bor (List ℕ)). w.now)) c.as_slice.ensures.value in
    let are : map (λ w. w.now) c.as_slice.result.now ≡ words_of c.args.arguments.now = texts ∙ (c.in_ok-words.ensures ∙ ap (map string_bytes) c.without_name.ensures) in
    let out = c.in_ok-with_capacity in
    let err = c.in_ok-with_capacity-2 in
    let begins = both_held_none g.W.Write.contents g.E.Write.contents out.field-0 err.field-0 c.args.to out.ensures.inner out.ensures.empty err.ensures.inner err.ensures.empty in
    run_written_out (map (λ w. w.now) c.as_slice.result.now) (words_of c.args.arguments.now) (g.L.Loader.has c.args.loader.now) (g.L.Loader.failed c.args.loader.now)
    (g.L.Loader.failed c.run-status.new.loader) g.W.Write.contents g.E.Write.contents c.args.to _ c.run-status.new.to c.run-status.result
    c.written_out-status.result c.written_out-status-2.result are begins c.run-status.ensures.line c.written_out-status.ensures c.written_out-status-2.ensures
