use Rattle.std.proofs.Common.{◌++◌, ℕ, List, OnOk, ap, append_assoc, subst, sym, ◌∙◌}
use Rattle.worked_examples.proofs.shelf.take_in_two.Goals as goal

pub returns : goal.returns
returns g c = λ start before h.
    let first = c.split_at.result.0.now in
    let rest = c.split_at.result.1.now in
    subst (λ (t : List ℕ). OnOk c.take-2.result (g.S.Sink.has_taken start c.take-2.new.self t)) (append_assoc before first rest ∙ ap (λ (t : List ℕ). before ++ t) (sym c.split_at.ensures.by_index.0))
    (c.take-2.ensures start (before ++ first) (c.in_ok-take.ensures start before h))
