use Rattle.report.proofs.Common.{arith, sym, ◌∙◌}
use Rattle.report.proofs.CauseLemmas.{other_before}
use Rattle.report.proofs.layer.CauseFinder.cause_without_pad.Goals as goal

pub overflow_add-other : goal.overflow_add-other
overflow_add-other c =
    let before = other_before c.args.rows.now c.args.hole.now c.in-Some.other (sym c.in_ok-other.ensures ∙ c.in-Some.is) in
    let below = before.0 in
    omega (arith, below)

pub other_cause-requires : goal.other_cause-requires
other_cause-requires c = (other_before c.args.rows.now c.args.hole.now c.in-Some.other (sym c.in_ok-other.ensures ∙ c.in-Some.is)).1
