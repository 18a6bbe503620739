-- Tests that all bytes of a text pass.
use Rattle.gerber_text.proofs.Common.{◌≡◌, ℕ, Bool, true, false, cond, ◌||◌, List, [], ◌∷◌, ◌++◌, refl, sym, ap, ◌∙◌, filter, list_all, list_any, list_all-append, both_true}

pub all_parts : (p : ℕ → Bool) (xs ys : List ℕ) → list_all p (xs ++ ys) ≡ true → (list_all p xs ≡ true) × (list_all p ys ≡ true)
all_parts p xs ys h = both_true (list_all p xs) (list_all p ys) (sym (list_all-append p xs ys) ∙ h)

-- where all pass one test, none passes another
pub none_passes : (p q : ℕ → Bool) → ((b : ℕ) → p b ≡ true → q b ≡ false) → (xs : List ℕ) → list_all p xs ≡ true → list_any q xs ≡ false
none_passes p q h [] e = refl
none_passes p q h (x ∷ xs) e = let k = both_true (p x) (list_all p xs) e in λ i. (h x k.0 i || none_passes p q h xs k.1 i)

-- nothing is dropped where all pass
pub kept_whole : (p : ℕ → Bool) (xs : List ℕ) → list_all p xs ≡ true → filter p xs ≡ xs
kept_whole p [] h = refl
kept_whole p (x ∷ xs) h =
    let b = both_true (p x) (list_all p xs) h in
    ap (λ t. cond t (x ∷ filter p xs) (filter p xs)) b.0 ∙ ap (λ (l : List ℕ). x ∷ l) (kept_whole p xs b.1)
