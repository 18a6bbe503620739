use Rattle.gerber_commands.proofs.Common.{◌≡◌, take, list_all, is_digit}
use Rattle.gerber_commands.proofs.number.are_digits.Given as goal

abbrev pub invariant-loop-byte : goal.invariant-loop-byte
invariant-loop-byte l = l.all ≡ list_all is_digit (take l.byte-index l.bytes)
