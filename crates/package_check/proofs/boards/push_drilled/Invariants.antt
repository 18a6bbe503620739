use Rattle.package_check.proofs.Common.{◌≡◌, ◌++◌, map, take}
use Rattle.package_check.proofs.boards.push_drilled.Given as goal

abbrev pub invariant-loop-hole : goal.invariant-loop-hole
invariant-loop-hole l = l.drilled.items ≡ l.initial.drilled.items ++ map (λ hole. record { hole = hole; plated = l.fn.plated; span = l.fn.span }) (take l.hole-index l.holes)
