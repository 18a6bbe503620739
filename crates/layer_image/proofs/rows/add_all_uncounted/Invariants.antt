use Rattle.layer_image.proofs.Common.{◌≡◌, ◌++◌, filter_map, contour_pad, macro_pad}
use Rattle.layer_image.proofs.rows.add_all_uncounted.Given as goal

abbrev pub invariant-loop-feature : goal.invariant-loop-feature
invariant-loop-feature l = record {
  macros : l.found.macros.items ≡ l.fn.found.macros.items ++ filter_map (λ f. macro_pad f.what) l.yielded;
  contours : l.found.contours.items ≡ l.fn.found.contours.items ++ filter_map (λ f. contour_pad f.what) l.yielded;
}
