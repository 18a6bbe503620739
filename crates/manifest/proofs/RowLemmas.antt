-- One row after another.
use Rattle.manifest.proofs.Common.{◌≡◌, ◌∙◌, ◌++◌, ◌<◌, ◌≤◌, ◌+◌, ℕ, List, [], ◌∷◌, length, map, take, get_or, refl, ap, sym, append_assoc, flat_map, append-nil, take_more, take_all}
use Rattle.std.proofs.lemmas.List.Concat.{flat_map-append}

module _ {A : Type 0} (row : A → List ℕ) (xs : List A) where
  pub row_more : (i : ℕ) (x : A) (start before after : List ℕ) → i < length xs → x ≡ get_or xs i x → before ≡ start ++ flat_map row (take i xs) → after ≡ before ++ row x → after ≡ start ++ flat_map row (take (i + 1) xs)
  row_more i x start before after lt here was is =
      let grown : take (i + 1) xs ≡ take i xs ++ x ∷ [] = take_more xs i x lt ∙ ap (λ y. take i xs ++ y ∷ []) (sym here) in
      let one : flat_map row (take (i + 1) xs) ≡ flat_map row (take i xs) ++ row x =
      ap (flat_map row) grown ∙ flat_map-append row (take i xs) (x ∷ []) ∙ ap (λ t. flat_map row (take i xs) ++ t) (append-nil (row x)) in
      is ∙ ap (λ t. t ++ row x) was ∙ append_assoc start (flat_map row (take i xs)) (row x) ∙ ap (λ t. start ++ t) (sym one)

  pub rows_all : (i : ℕ) (start before : List ℕ) → length xs ≤ i → before ≡ start ++ flat_map row (take i xs) → before ≡ start ++ flat_map row xs
  rows_all i start before ge was = was ∙ ap (λ ys. start ++ flat_map row ys) (take_all i xs ge)

-- the rows of the elements of references
pub rows_of : {A B : Type 0} (row : B → List ℕ) (f : A → B) (xs : List A) → flat_map (λ x. row (f x)) xs ≡ flat_map row (map f xs)
rows_of row f [] = refl
rows_of row f (x ∷ xs) = ap (λ t. row (f x) ++ t) (rows_of row f xs)
