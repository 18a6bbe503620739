use Rattle.print_json.proofs.Common.{◌∙◌}
use Rattle.print_json.proofs.ReadBack.{ended, not_ended}
use Rattle.print_json.proofs.certified.without_line_end.Goals as goal

pub returns-in-None : goal.returns-in-None
returns-in-None c = not_ended c.args.text.now c.in-None.ensures.cases

pub returns-in-Some : goal.returns-in-Some
returns-in-Some c = let cut = c.in-Some.ensures.cases in cut.2 ∙ ended c.args.text.now cut.0 cut.1.1
