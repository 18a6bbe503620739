use Rattle.std.proofs.Common.{◌≡◌, drop}
use Rattle.std.specs.List.{list_all}
use Rattle.pad_shapes.specs.Rounded.{edges_back, is_deep_left}
use Rattle.pad_shapes.proofs.polygon.is_deep_left_of_all.Given as goal

abbrev pub invariant-loop-to : goal.invariant-loop-to
invariant-loop-to l = list_all (λ e. is_deep_left e l.depth l.point) (edges_back l.first l.from (drop l.to-index l.others)) ≡ list_all (λ e. is_deep_left e l.depth l.point) (edges_back l.first l.first l.others)
