use Rattle.std.proofs.Common.{◌≡◌, true, not, ℕ, ◌<◌, get_or, eqb}
use Rattle.grid_units.proofs.numbers.repeat_len.Given as goal

abbrev pub invariant-loop-i : goal.invariant-loop-i
invariant-loop-i l = (k : ℕ) → k < l.i → eqb (get_or l.text k 0) l.sought ≡ true
