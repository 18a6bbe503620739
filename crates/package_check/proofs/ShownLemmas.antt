-- What is kept of a copper file to be shown.
use Rattle.package_check.proofs.Common.{◌≡◌, ◌∙◌, ℕ, Bool, true, false, List, [], Ok, refl, ap, if◌then◌else◌, Profile, Strict, Wide, without_places, LayerImage, ReadsLayerIn, StrictLayers, counting_profile, drawn_in, first_parts, uncleared_drawn, keeps_drawn, keeps_rows, Keep, copper_keep, features_of, view_in, wide_features_of}
use Rattle.layer_features.specs.declared.keep.Keep.TheVariants as keep

-- what the profile has of the flashes and contours of the wide one
pub viewed : StrictLayers → (profile : Profile) (text : List ℕ) (layer : LayerImage) → ReadsLayerIn profile text (Ok layer) → view_in profile (wide_features_of (without_places layer.commands)) ≡ features_of profile (without_places layer.commands)
viewed law Strict text layer h = (law text layer h).features
viewed law Wide text layer h = refl

-- and what it draws
pub drawn_viewed : StrictLayers → (profile : Profile) (text : List ℕ) (layer : LayerImage) → ReadsLayerIn profile text (Ok layer) → first_parts (uncleared_drawn (without_places layer.commands)) ≡ drawn_in profile (without_places layer.commands)
drawn_viewed law Strict text layer h = ap first_parts (law text layer h).drawn
drawn_viewed law Wide text layer h = refl

-- rows are kept of a copper file where they are kept of a package
pub rows_too : (of : Keep) → keeps_rows of ≡ true → keeps_rows (copper_keep of) ≡ true
rows_too keep.Rows h = refl
rows_too keep.RowsAndDrawn h = refl
rows_too of h = absurd cc

-- and what is drawn
pub drawn_too : (of : Keep) → keeps_drawn of ≡ true → keeps_drawn (copper_keep of) ≡ true
drawn_too keep.RowsAndDrawn h = refl
drawn_too of h = absurd cc

-- else pads alone are kept
pub pads_else : (of : Keep) → keeps_rows of ≡ false → copper_keep of ≡ keep.Pads
pads_else keep.Layer h = refl
pads_else keep.Pads h = refl
pads_else of h = absurd cc

-- what is drawn is kept only where rows are
pub rows_where_drawn : (of : Keep) → keeps_drawn of ≡ true → keeps_rows of ≡ true
rows_where_drawn keep.RowsAndDrawn h = refl
rows_where_drawn of h = absurd cc

-- where flashes and contours are kept, they are counted in the profile
pub counted_in : (profile : Profile) (of : Keep) → keeps_rows of ≡ true → counting_profile profile of ≡ profile
counted_in profile keep.Layer h = absurd cc
counted_in profile of h = refl

-- what is asked for is kept
pub kept_where : {X : Type 0} (b : Bool) (made kept : List X) → b ≡ true → kept ≡ (if b then made else []) → kept ≡ made
kept_where {X} b made kept h is = is ∙ ap (λ (c : Bool). let list : List X = if c then made else [] in list) h
