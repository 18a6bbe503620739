use Rattle.std.proofs.Common.{◌≡◌, drop}
use Rattle.std.specs.List.{list_any}
use Rattle.pad_shapes.specs.Rounded.{edges_back, is_beside}
use Rattle.pad_shapes.proofs.polygon.is_beside_some.Given as goal

abbrev pub invariant-loop-to : goal.invariant-loop-to
invariant-loop-to l = list_any (λ e. is_beside e l.distance l.point) (edges_back l.first l.from (drop l.to-index l.others)) ≡ list_any (λ e. is_beside e l.distance l.point) (edges_back l.first l.first l.others)
