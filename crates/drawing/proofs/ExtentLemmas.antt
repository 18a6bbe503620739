-- The extent of some elements and one more.
use Rattle.drawing.proofs.Common.{◌≡◌, ◌<◌, ◌+◌, ◌++◌, ℕ, List, [], ◌∷◌, Option, length, take, get_or, map, ap, sym, ◌∙◌, append-nil, flat_map, fold, take_more, GridExtent, joined_to}
use Rattle.std.proofs.lemmas.List.Folds.{fold-map}
use Rattle.std.proofs.lemmas.List.Sums.{fold_more, fold-append}
use Rattle.std.proofs.lemmas.List.Concat.{flat_map-append}

-- with one more element
pub extent_more : {X : Type 0} (f : X → GridExtent) (before : Option GridExtent) (xs : List X) (i : ℕ) (d : X) → i < length xs
    → joined_to (fold joined_to before (map f (take i xs))) (f (get_or xs i d)) ≡ fold joined_to before (map f (take (i + 1) xs))
extent_more {X} f before xs i d lt =
    ap (λ (all : Option GridExtent). joined_to all (f (get_or xs i d))) (fold-map joined_to f before (take i xs))
    ∙ (sym (fold_more (λ (all : Option GridExtent) (x : X). joined_to all (f x)) before xs i d lt) ∙ sym (fold-map joined_to f before (take (i + 1) xs)))

-- with the extents of one more layer
pub layers_more : {X : Type 0} (f : X → List GridExtent) (before : Option GridExtent) (xs : List X) (i : ℕ) (d : X) → i < length xs
    → fold joined_to (fold joined_to before (flat_map f (take i xs))) (f (get_or xs i d)) ≡ fold joined_to before (flat_map f (take (i + 1) xs))
layers_more f before xs i d lt =
    sym (fold-append joined_to before (flat_map f (take i xs)) (f (get_or xs i d)))
    ∙ ap (fold joined_to before)
    (ap (λ (t : List GridExtent). flat_map f (take i xs) ++ t) (sym (append-nil (f (get_or xs i d))))
    ∙ (sym (flat_map-append f (take i xs) (get_or xs i d ∷ [])) ∙ ap (flat_map f) (sym (take_more xs i d lt))))
