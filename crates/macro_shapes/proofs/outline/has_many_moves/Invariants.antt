use Rattle.macro_shapes.proofs.Common.{◌≡◌, ◌≤◌, ◌+◌, ◌∷◌, drop, length, zip, filter_map, other_point}
use Rattle.macro_shapes.proofs.outline.has_many_moves.Given as goal

abbrev pub invariant-loop-next : goal.invariant-loop-next
invariant-loop-next l = (l.count ≤ 256) × (l.count + length (filter_map other_point (zip (l.last ∷ drop l.next-index l.run) (drop l.next-index l.run))) ≡ length (filter_map other_point (zip (l.fn.before ∷ l.run) l.run)))
