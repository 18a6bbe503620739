use Rattle.std.proofs.Common.{◌≡◌, drop, pos}
use Rattle.std.specs.Prelude.{int_lt}
use Rattle.std.specs.List.{list_any}
use Rattle.pad_shapes.specs.Rounded.{edges_back, cross}
use Rattle.pad_shapes.proofs.polygon.has_area.Given as goal

abbrev pub invariant-loop-to : goal.invariant-loop-to
invariant-loop-to l = list_any (λ e. int_lt (pos 0) (cross e l.first)) (edges_back l.first l.from (drop l.to-index l.others)) ≡ list_any (λ e. int_lt (pos 0) (cross e l.first)) (edges_back l.first l.first l.others)
