use Rattle.gerber_commands.proofs.ProfileLemmas.{wide_reads_more}
use Rattle.gerber_commands.proofs.laws.wide_reads_more.Goals as goal

pub returns : goal.returns
returns c = wide_reads_more
