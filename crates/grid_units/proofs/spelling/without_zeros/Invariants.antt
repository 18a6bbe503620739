use Rattle.std.proofs.Common.{◌≡◌, ◌≤◌}
use Rattle.grid_units.specs.Spellings.{places, without_end_zeros}
use Rattle.grid_units.proofs.spelling.without_zeros.Given as goal

abbrev pub invariant-loop-width : goal.invariant-loop-width
invariant-loop-width l = record { same : without_end_zeros (places l.width l.rest) ≡ without_end_zeros (places l.fn.digits l.fn.number); width : l.width ≤ l.fn.digits }

abbrev pub decreases-loop-width : goal.decreases-loop-width
decreases-loop-width l = l.width
