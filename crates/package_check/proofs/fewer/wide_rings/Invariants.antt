use Rattle.package_check.proofs.Common.{◌≡◌, take, enumerate_from, flat_map, in_wide, layer_rings}
use Rattle.package_check.proofs.fewer.wide_rings.Given as goal

-- the rings so far are those of the layers so far
abbrev pub invariant-loop-layer : goal.invariant-loop-layer
invariant-loop-layer l =
    l.rings.items ≡ flat_map (layer_rings (in_wide l.fn.rules) l.board) (take l.layer (enumerate_from 0 l.board.layer_indexes))
