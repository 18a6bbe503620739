use Rattle.picture.proofs.Common.{take, HasWritten, IsPlainFormatter, enumerate_from, flat_map, placed_pad}
use Rattle.picture.proofs.pads.write_paths.Given as goal

-- the pads so far
abbrev pub invariant-loop-place : goal.invariant-loop-place
invariant-loop-place g l =
    IsPlainFormatter l.initial.f → HasWritten g.W.Write.write_str_gives l.initial.f (flat_map (placed_pad l.pads) (take l.place (enumerate_from 0 l.pads))) l.f
