use Rattle.drill_text.proofs.Common.{[], ◌∷◌, ◌++◌, err_from_is_err_and, IfErr-weaker, Refuses}
use Rattle.drill_text.proofs.PieceLemmas.{Refuses-then, Refuses-longer}
use Rattle.drill_text.proofs.reader.Progress.take_line.Goals as goal

pub returns-in_err-extend-clause-err : goal.returns-in_err-extend-clause-err
returns-in_err-extend-clause-err c =
    let p = err_from_is_err_and c.from_residual.result c.from_residual.ensures.1 in
    rw (p.1, p.2) (Refuses-longer c.args.self.now c.args.run.now (10 ∷ []) c.in_err-extend.field-0.0 c.in_err-extend.ensures.err)

pub returns-clause-err : goal.returns-clause-err
returns-clause-err c =
    let old = c.args.self.now in
    let run = c.args.run.now in
    IfErr-weaker c.close.result (Refuses c.extend.new.self (10 ∷ [])) (Refuses old (run ++ 10 ∷ [])) (λ e h. Refuses-then old c.extend.new.self run (10 ∷ []) e c.in_ok-extend.ensures.ok h) c.close.ensures.err
