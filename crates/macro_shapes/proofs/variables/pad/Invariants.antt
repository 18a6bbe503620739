use Rattle.macro_shapes.proofs.Common.{◌≡◌, ℕ, ◌-◌, ◌≤◌, None, length, get_or}
use Rattle.macro_shapes.proofs.variables.pad.Given as goal

abbrev pub invariant-loop-values : goal.invariant-loop-values
invariant-loop-values l = record {
  same : (k : ℕ) → get_or l.values.items k None ≡ get_or l.fn.values.items k None;
  few : length l.values.items ≤ 999;
}

abbrev pub decreases-loop-values : goal.decreases-loop-values
decreases-loop-values l = l.len - length l.values.items
