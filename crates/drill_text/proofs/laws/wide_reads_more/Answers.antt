use Rattle.drill_text.proofs.WideLemmas.{wide_reads}
use Rattle.drill_text.proofs.laws.wide_reads_more.Goals as goal

pub returns : goal.returns
returns c = wide_reads
