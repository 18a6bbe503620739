use Rattle.std.proofs.Common.{◌≡◌, ◌<◌, ◌^◌, true, take}
use Rattle.std.specs.List.{list_all}
use Rattle.grid_units.specs.Numbers.{is_digit, value}
use Rattle.grid_units.proofs.prefix.leading_digits.Given as goal

abbrev pub invariant-loop-i : goal.invariant-loop-i
invariant-loop-i l = record {
  digits : list_all is_digit (take l.i l.digits) ≡ true;
  value : l.n ≡ value (take l.i l.digits);
  bound : l.n < 10 ^ l.i;
}
