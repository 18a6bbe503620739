use Rattle.board.specs.Inner.Zones.{CoversNothing}
use Rattle.board.proofs.bare.first_near.Given as goal

-- the pads so far cover no point of the zone
abbrev pub invariant-loop-place : goal.invariant-loop-place
invariant-loop-place g l = CoversNothing g.S.PadShape.covers l.pads l.place l.zone
