use Rattle.gerber_commands.proofs.Common.{◌≡◌, ◌<◌, ◌^◌, take, value}
use Rattle.gerber_commands.proofs.number.value_of.Given as goal

abbrev pub invariant-loop-byte : goal.invariant-loop-byte
invariant-loop-byte l = record { value : l.n ≡ value (take l.byte-index l.digits); bound : l.n < 10 ^ l.byte-index }
