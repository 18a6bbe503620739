use Rattle.ringcheck_files.proofs.SameCommandsLemmas.{keeps_commands}
use Rattle.ringcheck_files.proofs.laws.keeps_commands.Goals as goal

pub returns : goal.returns
returns c = keeps_commands
