-- Lists that grow by what one element gives.
use Rattle.picture.proofs.Common.{◌≡◌, ◌<◌, ◌+◌, ◌++◌, ◌∙◌, ℕ, List, length, take, get_or, refl, ap, enumerate_from, flat_map, flat_listed_more}

-- what one more element and its place give
pub placed_more : {X Y : Type 0} (f : ℕ × X → List Y) (out more : List Y) (xs : List X) (i : ℕ) (d : X) → i < length xs → out ≡ flat_map f (take i (enumerate_from 0 xs)) → more ≡ out ++ f (i, get_or xs i d)
    → more ≡ flat_map f (take (i + 1) (enumerate_from 0 xs))
placed_more f out more xs i d lt was is = is ∙ flat_listed_more f out xs i d lt was

-- what one more element gives, as it was read at its place
pub placed_next : {X Y : Type 0} (f : ℕ × X → List Y) (xs : List X) (i : ℕ) (x : X) → i < length xs → x ≡ get_or xs i x → flat_map f (take i (enumerate_from 0 xs)) ++ f (i, x) ≡ flat_map f (take (i + 1) (enumerate_from 0 xs))
placed_next f xs i x lt at = ap (λ y. flat_map f (take i (enumerate_from 0 xs)) ++ f (i, y)) at ∙ flat_listed_more f (flat_map f (take i (enumerate_from 0 xs))) xs i x lt refl
