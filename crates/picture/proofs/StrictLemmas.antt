-- What a panel draws of a layer of the strict profile, and where its crosses stand.
use Rattle.picture.proofs.Common.{◌≡◌, ◌++◌, List, [], ◌∷◌, Bool, true, false, cond, map, refl, ap, filter, pad_paths, crosses_of, plain_pads, rounded_pads}
use Rattle.std.proofs.lemmas.List.{append-nil}
use Rattle.std.specs.Prelude.{not}
use Rattle.grid_units.specs.Points.{GridPoint}
use Rattle.pad_shapes.specs.Rows.{is_pad_row}
use Rattle.pad_shapes.specs.declared.pad.Pad.{Pad}
use Rattle.pad_shapes.specs.declared.row.FeatureRow.{FeatureRow}
use Rattle.pad_shapes.specs.declared.wide_pad.WidePad.TheVariants.{Plain}
use Rattle.picture.specs.RoundedPads.{pads_text}

pub strict_plain : (pads : List Pad) → plain_pads (map Plain pads) ≡ pads
strict_plain [] = refl
strict_plain (p ∷ ps) = ap (λ qs. p ∷ qs) (strict_plain ps)

pub strict_rounded : (pads : List Pad) → rounded_pads (map Plain pads) ≡ []
strict_rounded [] = refl
strict_rounded (p ∷ ps) = strict_rounded ps

-- one more row, by whether it is a pad
one_more : (r : FeatureRow) (is_pad : Bool) (points : List GridPoint) (others : List FeatureRow) → points ≡ map (λ row. row.at) others
    → cond is_pad [] (r.at ∷ []) ++ points ≡ map (λ row. row.at) (cond (not is_pad) (r ∷ others) others)
one_more r true points others e = e
one_more r false points others e = ap (λ ps. r.at ∷ ps) e

pub points_of_crosses : (rows : List FeatureRow) → crosses_of rows ≡ map (λ row. row.at) (filter (λ row. not (is_pad_row row.what)) rows)
points_of_crosses [] = refl
points_of_crosses (r ∷ rs) = one_more r (is_pad_row r.what) (crosses_of rs) (filter (λ (row : FeatureRow). not (is_pad_row row.what)) rs) (points_of_crosses rs)

pub strict_text : (pads : List Pad) → pads_text pads [] ≡ pad_paths pads
unfolding pads_text
strict_text pads = append-nil (pad_paths pads)
