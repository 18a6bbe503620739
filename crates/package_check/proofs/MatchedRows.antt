-- Rows and pads belong together.
use Rattle.package_check.proofs.Common.{◌≡◌, ◌+◌, ◌∷◌, ℕ, suc, cond, List, [], length, refl, ap, WidePad, cons_option, enumerate_from, filter_map, RowsAreMatched, pad_in, row_kind, rows_of, Feature, FeatureKind}
use Rattle.std.proofs.Common.{Some, None}
use Rattle.pad_shapes.specs.Rows.{is_pad_row}
use Rattle.report.specs.Causes.{pad_place}
use Rattle.layer_features.specs.Features.{pads_of}
use Rattle.layer_features.specs.declared.feature.FeatureKind.TheVariants as kind

one_more : (k : ℕ) (what : FeatureKind) (places : List ℕ) (pads : List WidePad) → length places ≡ length pads → length (cons_option (cond (is_pad_row (row_kind what)) (Some k) None) places) ≡ length (cons_option (pad_in what) pads)
one_more k (kind.Pad pad) places pads e = ap suc e
one_more k (kind.Shape pad reason) places pads e = ap suc e
one_more k (kind.Contour pad) places pads e = ap suc e
one_more k what places pads e = e

matched_from : (k : ℕ) (features : List Feature) → length (filter_map pad_place (enumerate_from k (rows_of features))) ≡ length (pads_of features)
matched_from k [] = refl
matched_from k (f ∷ fs) = one_more k f.what _ _ (matched_from (k + 1) fs)

pub rows_are_matched : RowsAreMatched
rows_are_matched features = matched_from 0 features
