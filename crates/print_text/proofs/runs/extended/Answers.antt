use Rattle.print_text.proofs.RunLemmas.{longer_run}
use Rattle.print_text.proofs.runs.extended.Goals as goal

pub returns : goal.returns
returns c = λ rings layer lt h. longer_run rings c.args.place layer c.args.run c.min.result c.min.ensures lt h
