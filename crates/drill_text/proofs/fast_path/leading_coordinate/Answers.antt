use Rattle.drill_text.proofs.Common.{◌≡◌, ◌∷◌, ◌++◌, take, sym, ap, ◌∙◌, arith, list_all, take-append-drop, is_number_char}
use Rattle.drill_lines.proofs.CutLemmas.{run_passes}
use Rattle.drill_text.proofs.fast_path.leading_coordinate.Goals as goal

pub returns-in-Ok : goal.returns-in-Ok
returns-in-Ok c =
    let tail = c.in-Some.tail.now in
    let cut = c.split_at.ensures in
    let same : c.in-Some.first.now ≡ c.args.letter = omega (arith, c.if-first-letter.false) in (
      tail,
      c.in-Some.ensures.cases.0 ∙ (λ i. same i ∷ tail),
      record {
        run = c.split_at.result.0.now;
        whole = sym (take-append-drop c.number_run_len.result tail) ∙ (λ i. sym cut.front i ++ sym cut.back i);
        numbers = ap (list_all is_number_char) (cut.front ∙ ap (λ n. take n tail) c.number_run_len.ensures.len) ∙ run_passes is_number_char tail;
        reads = sym c.coordinate_of.ensures ∙ c.in-Ok.is;
        short = omega (arith, c.if-run-le16.true);
      },
    )
