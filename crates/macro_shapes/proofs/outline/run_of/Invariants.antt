use Rattle.macro_shapes.proofs.Common.{◌≡◌, ◌++◌, length, option_map, run_of}
use Rattle.macro_shapes.proofs.outline.run_of.Given as goal

abbrev pub invariant-loop-left : goal.invariant-loop-left
invariant-loop-left l = option_map (λ ps. l.run.items ++ ps) (run_of l.unit l.turns l.left) ≡ run_of l.unit l.turns l.values

abbrev pub decreases-loop-left : goal.decreases-loop-left
decreases-loop-left l = length l.left
