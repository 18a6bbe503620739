use Rattle.drill_text.proofs.Common.{◌≢◌, refl, rules, arith, recursion_from_All, err_from_is_err_and}
use Rattle.drill_text.proofs.WholeLineLemmas.{whole_holds, whole_refused}
use Rattle.drill_text.proofs.reader.Progress.take_whole_line.Goals as goal

pub returns-clause-ok : goal.returns-clause-ok
returns-clause-ok c p keep text h =
    let line = c.args.line.now in
    let k = c.in_ok-parse_line.ensures p keep h.lines h.commands (omega (arith, h.count)) h.start h.has_read in
    whole_holds c.args.self.now _ text line k.0 h c.requires.empty (recursion_from_All (λ b. b ≢ 10) line c.requires.inside) refl k.1 k.2 refl refl (search rules)

pub returns-in_err-parse_line-clause-err : goal.returns-in_err-parse_line-clause-err
returns-in_err-parse_line-clause-err c =
    let line = c.args.line.now in
    let p = err_from_is_err_and c.from_residual.result c.from_residual.ensures.1 in
    rw (p.1, p.2) (whole_refused c.args.self.now line c.in_err-parse_line.field-0.0 c.requires.empty (recursion_from_All (λ b. b ≢ 10) line c.requires.inside) (λ q keep text h. c.in_err-parse_line.ensures q keep h.lines h.commands (omega (arith, h.count)) h.start h.has_read))
