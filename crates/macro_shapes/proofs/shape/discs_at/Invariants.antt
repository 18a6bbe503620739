use Rattle.macro_shapes.proofs.Common.{◌≡◌, take, fold, disc_at, least}
use Rattle.macro_shapes.proofs.shape.discs_at.Given as goal

abbrev pub invariant-loop-corner : goal.invariant-loop-corner
invariant-loop-corner l = l.found ≡ fold (λ found v. least found (disc_at l.primitives v)) (disc_at l.primitives l.fn.first) (take l.corner-index l.others)
