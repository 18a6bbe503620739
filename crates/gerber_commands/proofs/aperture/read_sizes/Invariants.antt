use Rattle.gerber_commands.proofs.Common.{◌≡◌, ◌+◌, ◌≤◌, length, map, IfOk, option_copied, all_values, split_by, split_by_if, left_of}
use Rattle.grid_units.specs.Numbers.{parse_decimal}
use Rattle.gerber_commands.proofs.Parameters.{joined}
use Rattle.gerber_commands.proofs.aperture.read_sizes.Given as goal

abbrev pub invariant-loop-left : goal.invariant-loop-left
invariant-loop-left l = record {
  same : joined l.sizes (all_values (map parse_decimal (split_by_if 88 (option_copied l.left)))) ≡ all_values (map parse_decimal (split_by 88 l.text));
  room : IfOk l.sizes (λ s. length s + length (split_by_if 88 (option_copied l.left)) ≤ 5);
}

abbrev pub decreases-loop-left : goal.decreases-loop-left
decreases-loop-left l = left_of (option_copied l.left)
