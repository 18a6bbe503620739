use Rattle.picture.proofs.Common.{take, HasWritten, IsPlainFormatter, enumerate_from, flat_map, placed_hole}
use Rattle.picture.proofs.holes.write_holes.Given as goal

-- the holes so far
abbrev pub invariant-loop-place : goal.invariant-loop-place
invariant-loop-place g l =
    IsPlainFormatter l.initial.f
    → HasWritten g.W.Write.write_str_gives l.initial.f (flat_map (placed_hole l.pen l.holes) (take l.place (enumerate_from 0 l.holes))) l.f
