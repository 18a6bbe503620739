use Rattle.std.proofs.Common.{◌≡◌, true, not, eqb, ℕ, ◌<◌, get_or}
use Rattle.grid_units.proofs.decimal.point_at.Given as goal

abbrev pub invariant-loop-i : goal.invariant-loop-i
invariant-loop-i l = (k : ℕ) → k < l.i → not (eqb (get_or l.digits k 0) 46) ≡ true
