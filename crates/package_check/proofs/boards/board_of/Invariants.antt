use Rattle.package_check.proofs.Common.{◌≡◌, map, flat_map, contents_in, holes_in, pads_of, shown_in, sum_of}
use Rattle.package_check.proofs.boards.board_of.Given as goal

abbrev pub invariant-loop-slot : goal.invariant-loop-slot
invariant-loop-slot l = record {
  files : l.files.items ≡ map sum_of (flat_map contents_in l.yielded);
  layers : map (λ layer. layer.items) l.layers.items ≡ flat_map pads_of (flat_map contents_in l.yielded);
  holes : l.holes.items ≡ flat_map holes_in l.yielded;
  shown : l.shown.items ≡ flat_map shown_in l.yielded;
}
