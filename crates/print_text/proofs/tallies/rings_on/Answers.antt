use Rattle.print_text.proofs.Common.{◌∙◌}
use Rattle.print_text.proofs.RunLemmas.{count_in_run}
use Rattle.print_text.proofs.tallies.rings_on.Goals as goal

pub returns : goal.returns
returns c = c.rings_among.ensures ∙ count_in_run c.args.rings.now c.args.run.layer c.args.run c.requires
