use Rattle.gerber_text.proofs.Common.{Strict}
use Rattle.gerber_text.proofs.GrammarItems.{item_written, item_ends}
use Rattle.gerber_text.proofs.SpelledCommands.{said, is_spelled, was_spelled}
use Rattle.gerber_text.proofs.laws.spelled_commands.Goals as goal

pub returns-clause-said : goal.returns-clause-said
returns-clause-said c = said

pub returns-clause-ends : goal.returns-clause-ends
returns-clause-ends c latest item commands cut e = item_ends Strict latest item commands (item_written Strict latest item commands cut.one e)

pub returns-clause-exact : goal.returns-clause-exact
returns-clause-exact c command = (is_spelled command, was_spelled command)
