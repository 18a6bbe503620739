use Rattle.std.proofs.lemmas.Result.{err_from_is_err_and}
use Rattle.drill_lines.proofs.RouteLemmas.{step_taken, step_refused}
use Rattle.drill_lines.proofs.line_reader.LineReader.read_wide.Goals as goal

pub returns-in_err-spelled : goal.returns-in_err-spelled
returns-in_err-spelled c earlier h =
    let p = err_from_is_err_and c.from_residual.result c.from_residual.ensures.1 in
    rw (p.1, p.2) (step_refused c.args.self.now.route c.args.settings earlier c.args.line.now c.in_err-spelled.field-0.0 h.route c.in_err-spelled.ensures)

pub returns : goal.returns
returns c earlier h =
    let k = step_taken c.args.self.now.route c.args.settings earlier c.args.line.now (c.in_ok-spelled.spelled, c.in_ok-spelled.route) h.route c.in_ok-spelled.ensures in
    (k.0, λ later x. record { in_profile = h.in_profile; route = k.1 later x })
