use Rattle.macro_shapes.proofs.Common.{◌≡◌, ◌++◌, drop, option_map, primitives_of}
use Rattle.macro_shapes.proofs.primitive.read_primitives.Given as goal

abbrev pub invariant-loop-spelled : goal.invariant-loop-spelled
invariant-loop-spelled l = option_map (λ qs. l.primitives.items ++ qs) (primitives_of l.unit (drop l.spelled-index l.fields)) ≡ primitives_of l.unit l.fields
