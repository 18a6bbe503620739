-- The points of a contour, side by side.
use Rattle.layer_features.proofs.Common.{◌≡◌, List, ◌∷◌, refl, option_and_then, option_map, Part, ends_of, points_of}
use Rattle.layer_features.specs.Inner.Steps.{end_of, start_of}
use Rattle.layer_features.specs.declared.part.Part.TheVariants as part

pub next_end : (p : Part) (ps : List Part) → ends_of (p ∷ ps) ≡ option_and_then (λ to. option_map (λ rest. to ∷ rest) (ends_of ps)) (end_of p)
next_end (part.Side from to bent) ps = refl
next_end part.Move ps = refl
next_end part.Other ps = refl

pub first_start : (p : Part) (ps : List Part) → points_of (p ∷ ps) ≡ option_and_then (λ from. option_map (λ rest. from ∷ rest) (ends_of (p ∷ ps))) (start_of p)
first_start (part.Side from to bent) ps = refl
first_start part.Move ps = refl
first_start part.Other ps = refl
