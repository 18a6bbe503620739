use Rattle.picture.proofs.Common.{◌≡◌, take, enumerate_from, flat_map, drawn_finding}
use Rattle.picture.proofs.scene.drawn_findings.Given as goal

abbrev pub invariant-loop-place : goal.invariant-loop-place
invariant-loop-place l = l.lacks.items ≡ flat_map (drawn_finding l.layer l.holes) (take l.place (enumerate_from 0 l.findings))
