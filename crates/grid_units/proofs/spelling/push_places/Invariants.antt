use Rattle.std.proofs.Common.{◌≡◌, ◌++◌}
use Rattle.grid_units.specs.Spellings.{places}
use Rattle.grid_units.proofs.spelling.push_places.Given as goal

abbrev pub invariant-loop-exponent : goal.invariant-loop-exponent
invariant-loop-exponent l = l.text.bytes ++ places l.exponent l.number ≡ l.initial.text.bytes ++ places l.width l.number
