use Rattle.layer_features.proofs.Common.{◌≡◌, ◌++◌, ◌∷◌, length, option_map, ends_of}
use Rattle.layer_features.proofs.contour.ends_of.Given as goal

abbrev pub invariant-loop-left : goal.invariant-loop-left
invariant-loop-left l = option_map (λ ps. l.points.items ++ ps) (ends_of l.left) ≡ option_map (λ ps. l.fn.start ∷ ps) (ends_of l.sides)

abbrev pub decreases-loop-left : goal.decreases-loop-left
decreases-loop-left l = length l.left
