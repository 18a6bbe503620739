use Rattle.board.proofs.Common.{◌≡◌, [], get_or, map, take, is_ring_finding}
use Rattle.board.proofs.lacking.lacking_by.Given as goal

-- the answers so far are those of the holes so far
abbrev pub invariant-loop-hole : goal.invariant-loop-hole
invariant-loop-hole g l = l.lacking.items ≡ map (is_ring_finding g.S.PadShape.covers l.rules.profile l.rules.ring l.layer (get_or (map (λ pads. pads.now) l.layers) l.layer [])) (take l.hole l.holes)
