use Rattle.macro_shapes.proofs.Common.{◌≡◌, drop, list_any, is_same}
use Rattle.macro_shapes.proofs.outline.is_among.Given as goal

abbrev pub invariant-loop-other : goal.invariant-loop-other
invariant-loop-other l = list_any (is_same l.point) (drop l.other-index l.others) ≡ list_any (is_same l.point) l.others
