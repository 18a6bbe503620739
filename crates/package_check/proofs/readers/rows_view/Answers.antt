use Rattle.package_check.proofs.Common.{◌≡◌, ap, ◌∙◌, Profile, without_places, first_parts, uncleared_drawn, keeps_drawn, keeps_rows, FeatureCounts, Drawn, WidePad, is_copper_function, counts_of, features_of, rows_of, uncounted_contours, uncounted_macros, view_in, wide_features_of, Vec}
use Rattle.layer_features.specs.Features.{pads_of}
use Rattle.package_check.proofs.ShownLemmas.{counted_in, kept_where}
use Rattle.package_check.proofs.readers.rows_view.Goals as goal

pub returns-clause-view : goal.returns-clause-view
returns-clause-view c of entries is rows viewed =
    let cs = without_places entries in
    let features : c.in_ok-features.features.items ≡ features_of c.args.profile cs = c.in_ok-features.ensures.view ∙ ap (view_in c.args.profile) (c.into_rows-features.ensures.features ∙ kept_where (keeps_rows of) (wide_features_of cs) c.args.image.features rows is.features) ∙ viewed in
    let counts = c.counts-counts.ensures ∙ is.counts ∙ ap (λ (p : Profile). counts_of (features_of p cs)) (counted_in c.args.profile of rows) in
    λ i. record {
      pads = (c.in_ok-show_rows.ensures.pads ∙ ap pads_of features) i;
      flashed = ap (λ (n : FeatureCounts). n.flashed) counts i;
      contours = ap (λ (n : FeatureCounts). n.contours) counts i;
      other = ap (λ (n : FeatureCounts). n.other) counts i;
      is_copper = (c.is_copper_function-is_copper.ensures ∙ ap is_copper_function (c.file_function.ensures ∙ is.named)) i;
    }

pub returns-clause-rows : goal.returns-clause-rows
returns-clause-rows c of entries is rows viewed =
    let cs = without_places entries in
    let features : c.in_ok-features.features.items ≡ features_of c.args.profile cs = c.in_ok-features.ensures.view ∙ ap (view_in c.args.profile) (c.into_rows-features.ensures.features ∙ kept_where (keeps_rows of) (wide_features_of cs) c.args.image.features rows is.features) ∙ viewed in
    let wide = c.into_rows-features.ensures.features ∙ kept_where (keeps_rows of) (wide_features_of cs) c.args.image.features rows is.features in
    record {
      rows = c.in_ok-show_rows.ensures.rows ∙ ap rows_of features;
      macros = ap (λ (v : Vec WidePad). v.items) c.show_rows.ensures.macros ∙ c.in_ok-features.ensures.macros ∙ ap (uncounted_macros c.args.profile) wide;
      contours = ap (λ (v : Vec WidePad). v.items) c.show_rows.ensures.contours ∙ c.in_ok-features.ensures.contours ∙ ap (uncounted_contours c.args.profile) wide;
    }

pub returns-clause-drawn : goal.returns-clause-drawn
returns-clause-drawn c of entries is draws =
    ap (λ (v : Vec Drawn). v.items) c.show_rows.ensures.drawn ∙ c.into_rows-features.ensures.drawn ∙ kept_where (keeps_drawn of) (first_parts (uncleared_drawn (without_places entries))) c.args.image.drawn draws is.drawn
