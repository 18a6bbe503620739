use Rattle.gerber_commands.proofs.Common.{◌≡◌, take, ◌==◌, list_any}
use Rattle.gerber_commands.proofs.negative.contains.Given as goal

abbrev pub invariant-loop-byte : goal.invariant-loop-byte
invariant-loop-byte l = l.found ≡ list_any (λ b. b == l.sought) (take l.byte-index l.text)
