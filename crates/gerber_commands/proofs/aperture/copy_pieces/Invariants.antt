use Rattle.gerber_commands.proofs.Common.{◌≡◌, ◌++◌, option_copied, split_by_if, left_of}
use Rattle.gerber_commands.proofs.aperture.copy_pieces.Given as goal

abbrev pub invariant-loop-left : goal.invariant-loop-left
invariant-loop-left l = l.texts.items ++ split_by_if 42 (option_copied l.left) ≡ split_by_if 42 (option_copied l.text)

abbrev pub decreases-loop-left : goal.decreases-loop-left
decreases-loop-left l = left_of (option_copied l.left)
