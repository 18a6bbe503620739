use Rattle.picture.proofs.Common.{◌≡◌, take, crosses_of}
use Rattle.picture.proofs.scene.crosses_of.Given as goal

abbrev pub invariant-loop-row : goal.invariant-loop-row
invariant-loop-row l = l.points.items ≡ crosses_of (take l.row-index l.rows)
