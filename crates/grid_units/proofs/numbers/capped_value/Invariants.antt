use Rattle.std.proofs.Common.{◌≡◌, min, take}
use Rattle.grid_units.specs.Numbers.{value}
use Rattle.grid_units.proofs.numbers.capped_value.Given as goal

abbrev pub invariant-loop-byte : goal.invariant-loop-byte
invariant-loop-byte l = l.n ≡ min (value (take l.byte-index l.digits)) l.limit
