use Rattle.gerber_commands.proofs.ProfileLemmas.{items_answered_in, items_written_in}
use Rattle.gerber_commands.proofs.laws.items_in_profiles.Goals as goal

pub returns : goal.returns
returns c = record { written = items_written_in; answered = items_answered_in }
