use Rattle.gerber_commands.proofs.Common.{◌≡◌, ◌≤◌, ◌<◌, ◌^◌, take, true, is_digit, value}
use Rattle.std.proofs.Common.{All}
use Rattle.gerber_commands.proofs.number.more_digits.Given as goal

abbrev pub invariant-loop-i : goal.invariant-loop-i
invariant-loop-i l = record {
  short : l.i ≤ 12;
  digits : All (λ b. is_digit b ≡ true) (take l.i l.bytes);
  value : l.n ≡ value (take l.i l.bytes);
  bound : l.n < 10 ^ l.i;
}
