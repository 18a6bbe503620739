-- Panels one after the other.
use Rattle.drawing.proofs.Common.{◌≡◌, ◌<◌, ◌+◌, ◌++◌, ℕ, List, [], ◌∷◌, length, take, get_or, sym, subst, AllZip, enumerate_from, enumerated_more}

module _ {A B : Type 0} (R : A → B → Type 0) where
  zip_more : (xs : List A) (ys : List B) (x : A) (y : B) → AllZip R xs ys → R x y → AllZip R (xs ++ x ∷ []) (ys ++ y ∷ [])
  zip_more [] [] x y h r = (r, tt)
  zip_more [] (u ∷ us) x y h r = absurd h
  zip_more (v ∷ vs) [] x y h r = absurd h
  zip_more (v ∷ vs) (u ∷ us) x y h r = (h.0, zip_more vs us x y h.1 r)

-- one more element with its place
pub zip_placed : {A B : Type 0} (R : ℕ × A → B → Type 0) (xs : List A) (i : ℕ) (d : A) (ys more : List B) (y : B) → i < length xs
    → AllZip R (take i (enumerate_from 0 xs)) ys → R (i, get_or xs i d) y → more ≡ ys ++ y ∷ [] → AllZip R (take (i + 1) (enumerate_from 0 xs)) more
zip_placed {A} {B} R xs i d ys more y lt h r is =
    subst (λ (marks : List (ℕ × A)). AllZip R marks more) (sym (enumerated_more xs i d lt))
    (subst (AllZip R (take i (enumerate_from 0 xs) ++ (i, get_or xs i d) ∷ [])) (sym is) (zip_more R (take i (enumerate_from 0 xs)) ys (i, get_or xs i d) y h r))
