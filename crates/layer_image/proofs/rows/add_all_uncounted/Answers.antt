-- One flash or contour more.
use Rattle.layer_image.proofs.Common.{◌≡◌, ◌++◌, [], ◌∷◌, List, Option, append_assoc, ap, sym, ◌∙◌, cons_option, filter_map, filter_map-append, contour_pad, macro_pad}
use Rattle.layer_features.specs.declared.feature.Feature.{Feature}
use Rattle.layer_image.proofs.rows.add_all_uncounted.Goals as goal

one_more : {X Y : Type 0} (h : X → Option Y) (before now after : List Y) (xs : List X) (x : X) → now ≡ before ++ filter_map h xs → after ≡ now ++ cons_option (h x) [] → after ≡ before ++ filter_map h (xs ++ x ∷ [])
one_more h before now after xs x was is =
    is ∙ (ap (λ ys. ys ++ cons_option (h x) []) was ∙ (append_assoc before (filter_map h xs) (cons_option (h x) []) ∙ ap (λ ys. before ++ ys) (sym (filter_map-append h xs (x ∷ [])))))

pub loop-feature-preserved : goal.loop-feature-preserved
loop-feature-preserved c = record {
  macros = one_more (λ (f : Feature). macro_pad f.what) _ _ _ c.loop-feature.yielded c.in-Some.feature c.loop-feature.invariant.macros c.in_ok-add_uncounted.ensures.macros;
  contours = one_more (λ (f : Feature). contour_pad f.what) _ _ _ c.loop-feature.yielded c.in-Some.feature c.loop-feature.invariant.contours c.in_ok-add_uncounted.ensures.contours;
}
