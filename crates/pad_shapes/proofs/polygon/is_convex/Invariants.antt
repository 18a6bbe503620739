use Rattle.std.proofs.Common.{◌≡◌, drop}
use Rattle.std.specs.List.{list_all}
use Rattle.pad_shapes.specs.Rounded.{is_deep_inside}
use Rattle.pad_shapes.proofs.polygon.is_convex.Given as goal

abbrev pub invariant-loop-corner : goal.invariant-loop-corner
invariant-loop-corner l = list_all (λ v. is_deep_inside (record { first = l.first; others = l.others; radius = 0 }) 0 v) (drop l.corner-index l.others) ≡ list_all (λ v. is_deep_inside (record { first = l.first; others = l.others; radius = 0 }) 0 v) l.others
