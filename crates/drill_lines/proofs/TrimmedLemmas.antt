-- The blanks at the end of a line.
use Rattle.drill_lines.proofs.Common.{◌≡◌, ℕ, Bool, true, false, cond, eqb, ◌&&◌, List, [], ◌∷◌, ◌++◌, length, refl, ap, ◌∙◌, arith, length-append, is_blank, without_end_blanks}
use Rattle.grid_units.proofs.TrailingZeros.{keeps}

-- a blank at the end is dropped
pub trim_blank : (xs : List ℕ) (b : ℕ) → is_blank b ≡ true → without_end_blanks (xs ++ b ∷ []) ≡ without_end_blanks xs
trim_blank [] b h = ap (λ t. cond (t && true) [] (b ∷ [])) h
trim_blank (x ∷ xs) b h = ap (λ (t : List ℕ). cond (is_blank x && eqb (length t) 0) [] (x ∷ t)) (trim_blank xs b h)

-- a line that ends with no blank is kept
pub trim_kept : (xs : List ℕ) (b : ℕ) → is_blank b ≡ false → without_end_blanks (xs ++ b ∷ []) ≡ xs ++ b ∷ []
trim_kept [] b h = ap (λ t. cond (t && true) [] (b ∷ [])) h
trim_kept (x ∷ xs) b h = ap (λ (t : List ℕ). cond (is_blank x && eqb (length t) 0) [] (x ∷ t)) (trim_kept xs b h) ∙ keeps (is_blank x) x (xs ++ b ∷ []) (omega (arith, length-append xs (b ∷ [])))

-- what is kept is the front of the line
pub trimmed_front : (xs : List ℕ) → (rest : List ℕ) × (xs ≡ without_end_blanks xs ++ rest)
trimmed_front [] = ([], refl)
trimmed_front (x ∷ xs) = by (is_blank x && eqb (length (without_end_blanks xs)) 0) (trimmed_front xs)
  where
    by : (t : Bool) → ((rest : List ℕ) × (xs ≡ without_end_blanks xs ++ rest)) → (rest : List ℕ) × (x ∷ xs ≡ cond t [] (x ∷ without_end_blanks xs) ++ rest)
    by true k = (x ∷ xs, refl)
    by false k = (k.0, ap (λ (l : List ℕ). x ∷ l) k.1)

-- and ends with no blank
pub trimmed_twice : (xs : List ℕ) → without_end_blanks (without_end_blanks xs) ≡ without_end_blanks xs
trimmed_twice [] = refl
trimmed_twice (x ∷ xs) = by (is_blank x && eqb (length (without_end_blanks xs)) 0) refl (trimmed_twice xs)
  where
    by : (t : Bool) → (is_blank x && eqb (length (without_end_blanks xs)) 0) ≡ t → without_end_blanks (without_end_blanks xs) ≡ without_end_blanks xs → without_end_blanks (cond t [] (x ∷ without_end_blanks xs)) ≡ cond t [] (x ∷ without_end_blanks xs)
    by true e same = refl
    by false e same = ap (λ (l : List ℕ). cond (is_blank x && eqb (length l) 0) [] (x ∷ l)) same ∙ ap (λ t. cond t [] (x ∷ without_end_blanks xs)) e
