use Rattle.macro_shapes.proofs.Common.{◌≡◌, ◌++◌, option_map, option_copied, split_by, split_by_if, left_of, all_decimals}
use Rattle.macro_shapes.proofs.variables.read_decimals.Given as goal

abbrev pub invariant-loop-left : goal.invariant-loop-left
invariant-loop-left l = option_map (λ vs. l.values.items ++ vs) (all_decimals (split_by_if 88 (option_copied l.left))) ≡ all_decimals (split_by 88 l.text)

abbrev pub decreases-loop-left : goal.decreases-loop-left
decreases-loop-left l = left_of (option_copied l.left)
