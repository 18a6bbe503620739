use Rattle.board.proofs.Common.{◌≡◌, take, map, enumerate_from, flat_map, layer_findings}
use Rattle.board.proofs.lacking.ring_findings_from_bests.Given as goal

-- what is found so far is what the layers so far give
abbrev pub invariant-loop-layer : goal.invariant-loop-layer
invariant-loop-layer g l =
    l.findings.items ≡ flat_map (λ layer. layer_findings g.S.PadShape.covers l.rules.profile l.rules.ring l.holes layer.0 layer.1) (take l.layer (enumerate_from 0 (map (λ pads. pads.now) l.layers)))
