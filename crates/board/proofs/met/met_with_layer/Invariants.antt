use Rattle.board.proofs.Common.{map, AreLeast, HasRing, NeedsRingBefore}
use Rattle.board.proofs.met.met_with_layer.Given as goal

-- what the layers before and the holes so far ask for
abbrev pub invariant-loop-hole : goal.invariant-loop-hole
invariant-loop-hole g l = AreLeast (NeedsRingBefore l.layer l.hole l.holes) (HasRing g.S.PadShape.covers l.profile (map (λ pads. pads.now) l.layers) l.holes) l.met
