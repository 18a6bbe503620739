use Rattle.ring_rules.proofs.Common.{◌≡◌, take, map, enumerate_from, flat_map, layer_findings}
use Rattle.ring_rules.proofs.rings.ring_findings.Given as goal

-- the findings so far are those of the layers so far
abbrev pub invariant-loop-layer : goal.invariant-loop-layer
invariant-loop-layer g l =
    l.findings.items ≡ flat_map (λ layer. layer_findings g.S.PadShape.covers l.fn.rules.profile l.fn.rules.ring l.holes layer.0 layer.1) (take l.layer (enumerate_from 0 (map (λ pads. pads.now) l.layers)))
