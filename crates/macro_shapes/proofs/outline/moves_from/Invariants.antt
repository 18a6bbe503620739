use Rattle.macro_shapes.proofs.Common.{◌≡◌, ◌∷◌, ◌++◌, drop, zip, filter_map, other_point}
use Rattle.macro_shapes.proofs.outline.moves_from.Given as goal

abbrev pub invariant-loop-point : goal.invariant-loop-point
invariant-loop-point l = l.kept.items ++ filter_map other_point (zip (l.last ∷ drop l.point-index l.run) (drop l.point-index l.run)) ≡ filter_map other_point (zip (l.fn.before ∷ l.run) l.run)
