use Rattle.macro_shapes.proofs.Common.{◌≡◌, ◌++◌, length, option_map, option_copied, lookup, split_by_if, left_of, all_values}
use Rattle.macro_shapes.proofs.fields.read_values.Given as goal

abbrev pub invariant-loop-left : goal.invariant-loop-left
invariant-loop-left l =
    option_map (λ vs. l.values.items ++ vs) (all_values (lookup l.variables) l.code (length l.values.items) (split_by_if 44 (option_copied l.left))) ≡ all_values (lookup l.variables) l.code 0 (split_by_if 44 (option_copied l.text))

abbrev pub decreases-loop-left : goal.decreases-loop-left
decreases-loop-left l = left_of (option_copied l.left)
