use Rattle.gerber_text.proofs.Common.{◌≡◌, drop, sayable}
use Rattle.gerber_text.proofs.TextIsSayable.{goes_on}
use Rattle.gerber_text.proofs.sayable_items.sayable.Given as goal

abbrev pub invariant-loop-command : goal.invariant-loop-command
invariant-loop-command l = sayable l.commands ≡ goes_on l.ended (drop l.command-index l.commands)
