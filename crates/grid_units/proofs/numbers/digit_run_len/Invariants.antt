use Rattle.std.proofs.Common.{◌≡◌, true, ℕ, ◌<◌, get_or}
use Rattle.grid_units.specs.Numbers.{is_digit}
use Rattle.grid_units.proofs.numbers.digit_run_len.Given as goal

abbrev pub invariant-loop-i : goal.invariant-loop-i
invariant-loop-i l = (k : ℕ) → k < l.i → is_digit (get_or l.bytes k 0) ≡ true
